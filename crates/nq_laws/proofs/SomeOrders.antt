-- Whole rounds of a schedule that are computed: in which links keep their order, and in which they do not.
use Rattle.std.proofs.Common.{◌≡◌, ◌<◌, ℕ, ◌&&◌, Bool, true, false, nat_le, zero, suc, List, [], ◌∷◌, length, refl, arith}
use Rattle.std.specs.Prelude.{All, slice_get, slice_index_or}
use Rattle.std.proofs.lemmas.Bool.{and_parts}
use Rattle.nq_base.specs.Block.{filled, zeros}
use Rattle.nq_base.specs.declared.Call.{Call}
use Rattle.nq_base.specs.declared.Event.{Event}
use Rattle.nq_model.specs.laws.Bounds.{KeepsBounds, BootsWithin}
use Rattle.nq_model.specs.protocol.Lines.{Play, play}
use Rattle.nq_model.specs.protocol.Skew.{is_within_skew}
use Rattle.nq_model.specs.protocol.Stepped.{most_events, most_sent}
use Rattle.nq_model.specs.protocol.World.{run}
use Rattle.nq_model.proofs.SkewTest.{skew-test-is-sound}
use Rattle.walk_steps.proofs.GivenRuns.{given-run}
use Rattle.walk_steps.proofs.NoCrash.{one-first}
use Rattle.walk_steps.proofs.Tests.{is-at-most}
use Rattle.law_rounds.specs.DeliveryEnds.{AreUnderWay, calmed}
use Rattle.law_rounds.specs.CalmRoundsAreLawful.{IsLawful}
use Rattle.law_rounds.specs.QuietDeliveries.{recovers}
use Rattle.law_rounds.specs.WholeRounds.{is_next, play_order, IsInOrder, whole_round, whole_rounds, AreWhole, LinksKeepOrder}
use Rattle.nq_laws.specs.WholeCallsAnswered.{served_rounds_for, open_calls, rounds_for}
use Rattle.nq_laws.specs.WholeMet.{pair_head, pair_events, both, pair_calmed, put_off_first, WholeRoundsAreMet, overtakings, LinksMatter, is_open}
use Rattle.nq_laws.proofs.SoonRounds.{is_over, over}

-- ---- tests

abbrev all_arrive : List (List ℕ) → Play → Bool
all_arrive [] p = true
all_arrive (order ∷ orders) p = is_over (play_order order p).fresh && all_arrive orders (whole_round order p)

arrive : (orders : List (List ℕ)) (p : Play) → all_arrive orders p ≡ true → AreWhole orders p
arrive [] p e = tt
arrive (order ∷ orders) p e =
    let parts = and_parts (is_over (play_order order p).fresh) (all_arrive orders (whole_round order p)) e in
    (over (play_order order p).fresh parts.0, arrive orders (whole_round order p) parts.1)

abbrev in_turn : List ℕ → Play → Bool
in_turn [] p = true
in_turn (k ∷ order) p = is_next p.world.packets p.fresh k && in_turn order (play p (Event.Deliver k))

turns : (order : List ℕ) (p : Play) → in_turn order p ≡ true → IsInOrder order p
turns [] p e = tt
turns (k ∷ order) p e =
    let parts = and_parts (is_next p.world.packets p.fresh k) (in_turn order (play p (Event.Deliver k))) e in
    (parts.0, turns order (play p (Event.Deliver k)) parts.1)

abbrev all_in_turn : List (List ℕ) → Play → Bool
all_in_turn [] p = true
all_in_turn (order ∷ orders) p = in_turn order p && all_in_turn orders (whole_round order p)

all-turns : (orders : List (List ℕ)) (p : Play) → all_in_turn orders p ≡ true → LinksKeepOrder orders p
all-turns [] p e = tt
all-turns (order ∷ orders) p e =
    let parts = and_parts (in_turn order p) (all_in_turn orders (whole_round order p)) e in
    (turns order p parts.0, all-turns orders (whole_round order p) parts.1)

-- ---- a read and a put

pair-boots : All (BootsWithin 6) pair_events
pair-boots = one-first 6 (Event.Call 1 (Call.Put 1 0 (filled 7))) (Event.Call 0 (Call.Read 1 0) ∷ []) tt
    (one-first 6 (Event.Call 0 (Call.Read 1 0)) [] tt (λ k d below. absurd (omega arith)))

pair-bounds : KeepsBounds 6 pair_head pair_events
pair-bounds = record { hosts = omega arith; first_long = omega arith; first_short = omega arith; boots = pair-boots }

pair-within : is_within_skew 2 6 pair_events ≡ true
unfolding filled zeros
pair-within = refl

pair-lawful : IsLawful 6 pair_head pair_calmed
unfolding calmed
pair-lawful = record { is_run = refl; bounds = pair-bounds; within = skew-test-is-sound 2 6 pair_events pair-within }

two-packets : length (run pair_head pair_events).packets ≡ 2
unfolding filled zeros given-run
two-packets = refl

both-under-way : AreUnderWay (length (run pair_head pair_events).packets) both
both-under-way = let count = two-packets in (omega arith, behind-first, (omega arith, (λ k d below. absurd (omega arith)), tt))
  where
    behind-first : (k d : ℕ) → k < 1 → 0 < slice_index_or (1 ∷ []) k d
    behind-first zero d below = omega arith
    behind-first (suc k) d below = absurd (omega arith)

pair-serves : recovers (run pair_head pair_events).server.phase ≡ false
unfolding filled zeros given-run
pair-serves = refl

two-calls : open_calls (run pair_head pair_events).clients ≡ 2
unfolding filled zeros given-run
two-calls = refl

whole-test : all_arrive put_off_first pair_calmed ≡ true
unfolding calmed whole_round filled zeros given-run
whole-test = refl

links-test : all_in_turn put_off_first pair_calmed ≡ true
unfolding calmed whole_round filled zeros given-run
links-test = refl

few-events : nat_le (length (whole_rounds put_off_first pair_calmed).events) most_events ≡ true
unfolding calmed whole_round filled zeros given-run
few-events = refl

few-packets : nat_le (length (whole_rounds put_off_first pair_calmed).world.packets) most_sent ≡ true
unfolding calmed whole_round filled zeros given-run
few-packets = refl

put-open : is_open (slice_get (whole_rounds ((0 ∷ 1 ∷ 4 ∷ 2 ∷ 3 ∷ 5 ∷ []) ∷ [] ∷ []) pair_calmed).world.clients 1) ≡ true
unfolding calmed whole_round filled zeros given-run
put-open = refl

pub whole-rounds-met : WholeRoundsAreMet
whole-rounds-met = record {
  lawful = pair-lawful;
  serves = pair-serves;
  under_way = both-under-way;
  calls = two-calls;
  many = is-at-most (served_rounds_for 2) (length put_off_first) refl;
  whole = arrive put_off_first pair_calmed whole-test;
  links = all-turns put_off_first pair_calmed links-test;
  small = record {
    events = is-at-most (length (whole_rounds put_off_first pair_calmed).events) most_events few-events;
    packets = is-at-most (length (whole_rounds put_off_first pair_calmed).world.packets) most_sent few-packets;
  };
  unanswered = put-open;
}

-- ---- links that do not keep their order

overtaking-test : all_arrive (overtakings 12 0) pair_calmed ≡ true
unfolding calmed whole_round filled zeros given-run
overtaking-test = refl

few-events-then : nat_le (length (whole_rounds (overtakings 12 0) pair_calmed).events) most_events ≡ true
unfolding calmed whole_round filled zeros given-run
few-events-then = refl

few-packets-then : nat_le (length (whole_rounds (overtakings 12 0) pair_calmed).world.packets) most_sent ≡ true
unfolding calmed whole_round filled zeros given-run
few-packets-then = refl

read-open-then : is_open (slice_get (whole_rounds (overtakings 12 0) pair_calmed).world.clients 0) ≡ true
unfolding calmed whole_round filled zeros given-run
read-open-then = refl

put-open-then : is_open (slice_get (whole_rounds (overtakings 12 0) pair_calmed).world.clients 1) ≡ true
unfolding calmed whole_round filled zeros given-run
put-open-then = refl

pub links-matter : LinksMatter
links-matter = record {
  whole = arrive (overtakings 12 0) pair_calmed overtaking-test;
  many = is-at-most (rounds_for 6 2) (length (overtakings 12 0)) refl;
  small = record {
    events = is-at-most (length (whole_rounds (overtakings 12 0) pair_calmed).events) most_events few-events-then;
    packets = is-at-most (length (whole_rounds (overtakings 12 0) pair_calmed).world.packets) most_sent few-packets-then;
  };
  open_read = read-open-then;
  open_put = put-open-then;
}
