-- The test of skew is sound.
use Rattle.std.proofs.Common.{◌≡◌, ◌<◌, ◌≤◌, ℕ, ◌+◌, ◌++◌, zero, suc, true, List, [], ◌∷◌, subst, ◌∙◌, arith, append_assoc, below_more}
use Rattle.std.proofs.lemmas.Bool.Decides.{nat_tests}
use Rattle.std.proofs.lemmas.Bool.{and_parts}
use Rattle.nq_base.specs.declared.Event.{Event}
use Rattle.nq_model.specs.protocol.Profile.{skew}
use Rattle.nq_model.specs.protocol.Skew.{is_server_tick, is_tick_of, server_ticks, ticks_of, part_within, parts_within, host_within, is_within_skew}
use Rattle.nq_model.specs.protocol.Skew.{SkewTestIsSound}

-- what a test of one part says
pub part-says : (longest ticks server : ℕ) → part_within longest ticks server ≡ true → ticks ≤ longest → server ≤ ticks + skew
part-says longest ticks server h few = grind (arith, nat_tests)

-- a part that begins where the test begins
pub begins-here : (host longest ticks server : ℕ) (part after : List Event) → parts_within host longest ticks server (part ++ after) ≡ true
    → ticks_of host part + ticks ≤ longest → server_ticks part + server ≤ ticks_of host part + ticks + skew
begins-here host longest ticks server [] [] h few = let said : server ≤ ticks + skew = part-says longest ticks server h (omega arith) in omega arith
begins-here host longest ticks server [] (e ∷ after) h few = let said : server ≤ ticks + skew = part-says longest ticks server (and_parts _ _ h).0
    (omega arith) in omega arith
begins-here host longest ticks server (e ∷ part) after h few =
    let more : server_ticks part + (is_server_tick e + server) ≤ ticks_of host part + (is_tick_of host e + ticks) + skew =
    begins-here host longest (is_tick_of host e + ticks) (is_server_tick e + server) part after (and_parts _ _ h).1 (omega arith)
    in omega arith

-- a part that begins anywhere
begins-later : (host longest : ℕ) (before part after : List Event) → host_within host longest (before ++ (part ++ after)) ≡ true → ticks_of host part
    ≤ longest → server_ticks part ≤ ticks_of host part + skew
begins-later host longest [] [] after h few = omega arith
begins-later host longest [] (e ∷ part) after h few =
    let here : server_ticks (e ∷ part) + 0 ≤ ticks_of host (e ∷ part) + 0 + skew =
    begins-here host longest 0 0 (e ∷ part) after (and_parts _ _ h).0 (omega arith)
    in omega arith
begins-later host longest (b ∷ before) part after h few = begins-later host longest before part after (and_parts _ _ h).1 few

-- of each host
of-host : (hosts longest : ℕ) (events : List Event) → is_within_skew hosts longest events ≡ true → (host : ℕ) → host < hosts
    → host_within host longest events ≡ true
of-host zero longest events h host below = absurd (omega arith)
of-host (suc hosts) longest events h host below =
    below_more (λ k. host_within k longest events ≡ true) hosts (of-host hosts longest events (and_parts _ _ h).1) (and_parts _ _ h).0 host (omega arith)

pub skew-test-is-sound : SkewTestIsSound
skew-test-is-sound hosts longest events h before part after split host below few =
    begins-later
    host
    longest
    before
    part
    after
    (subst (λ es. host_within host longest es ≡ true) (split ∙ append_assoc before part after) (of-host hosts longest events h host below))
    few
