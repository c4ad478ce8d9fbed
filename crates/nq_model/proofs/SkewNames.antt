-- The test of skew is exact, and what is named where a tick breaks the rule is the lowest host and the part with the
-- fewest ticks of its clock.
use Rattle.std.proofs.Common.{◌≡◌, ◌<◌, ◌≤◌, ℕ, ◌+◌, ◌++◌, zero, suc, Bool, true, false, not, ◌||◌, List, [], ◌∷◌, refl, sym, ap, subst, ◌∙◌, arith}
use Rattle.std.proofs.Common.{append_assoc, below_more}
use Rattle.std.specs.Prelude.{◌⊎◌, Option, Some, None, nat_le, if◌then◌else◌}
use Rattle.std.proofs.lemmas.Bool.Decides.{nat_tests}
use Rattle.std.proofs.lemmas.Bool.{and_parts, and_from}
use mathlib.Core.Logic.{inl, inr}
use Rattle.nq_base.specs.declared.Event.{Event}
use Rattle.nq_base.specs.declared.SkewBroken.{SkewBroken}
use Rattle.nq_model.specs.protocol.Profile.{skew}
use Rattle.nq_model.specs.protocol.Skew.{is_server_tick, is_tick_of, server_ticks, ticks_of, part_within, parts_within, host_within, is_within_skew}
use Rattle.nq_model.specs.protocol.Skew.{IsWithinSkew}
use Rattle.nq_model.specs.laws.EachTickIsJudged.{EndsNow, Breaks, IsFewest, IsLowest, EachTickIsJudged, TellsSkew}
use Rattle.nq_model.specs.protocol.SkewBroken.{broken_from, found_first, lowest_broken}
use Rattle.nq_model.specs.laws.Tests.{Tells}
use Rattle.nq_model.proofs.SkewTest.{skew-test-is-sound, begins-here, part-says}
use Rattle.nq_model.proofs.Telling.{tells_implies, tells_le}

-- a part that keeps to the rule passes its test
part-passes : (longest ticks server : ℕ) → (ticks ≤ longest → server ≤ ticks + skew) → part_within longest ticks server ≡ true
part-passes longest ticks server h =
    let told : Tells (not (nat_le ticks longest) || nat_le server (ticks + skew)) (ticks ≤ longest → server ≤ ticks + skew) = tells_implies tells_le
    tells_le in told.complete h

-- no part that begins here breaks the rule, where so many ticks were counted already
KeepsFrom : (host longest ticks server : ℕ) → List Event → Type 0
KeepsFrom host longest ticks server events =
    (part after : List Event)
    → events ≡ part ++ after
    → ticks_of host part + ticks ≤ longest
    → server_ticks part + server ≤ ticks_of host part + ticks + skew

at-once : (host longest ticks server : ℕ) (events : List Event) → KeepsFrom host longest ticks server events → part_within longest ticks server ≡ true
unfolding KeepsFrom
at-once host longest ticks server events h = part-passes longest ticks server (λ few. let said = h [] events refl (omega arith) in omega arith)

one-on : (host longest ticks server : ℕ) (e : Event) (events : List Event) → KeepsFrom host longest ticks server (e ∷ events) → KeepsFrom host longest
    (is_tick_of host e + ticks) (is_server_tick e + server) events
unfolding KeepsFrom
one-on host longest ticks server e events h part after split few =
    let said : server_ticks (e ∷ part) + server ≤ ticks_of host (e ∷ part) + ticks + skew = h (e ∷ part) after (ap (λ es. e ∷ es) split)
    (omega arith) in omega arith

parts-pass : (host longest ticks server : ℕ) (events : List Event) → KeepsFrom host longest ticks server events → parts_within host longest ticks
    server events ≡ true
parts-pass host longest ticks server [] h = at-once host longest ticks server [] h
parts-pass host longest ticks server (e ∷ events) h =
    and_from
    (part_within longest ticks server)
    (parts_within host longest (is_tick_of host e + ticks) (is_server_tick e + server) events)
    (at-once host longest ticks server (e ∷ events) h)
    (parts-pass host longest (is_tick_of host e + ticks) (is_server_tick e + server) events (one-on host longest ticks server e events h))

-- the rule for one host
Keeps : (host longest : ℕ) → List Event → Type 0
Keeps host longest events =
    (before part after : List Event) → events ≡ before ++ (part ++ after) → ticks_of host part ≤ longest → server_ticks part ≤ ticks_of host part + skew

keeps-here : (host longest : ℕ) (events : List Event) → Keeps host longest events → KeepsFrom host longest 0 0 events
unfolding Keeps KeepsFrom
keeps-here host longest events h part after split few = let said = h [] part after split (omega arith) in omega arith

keeps-later : (host longest : ℕ) (e : Event) (events : List Event) → Keeps host longest (e ∷ events) → Keeps host longest events
unfolding Keeps
keeps-later host longest e events h before part after split few = h (e ∷ before) part after (ap (λ es. e ∷ es) split) few

host-passes : (host longest : ℕ) (events : List Event) → Keeps host longest events → host_within host longest events ≡ true
host-passes host longest [] h = refl
host-passes host longest (e ∷ events) h =
    and_from
    (parts_within host longest 0 0 (e ∷ events))
    (host_within host longest events)
    (parts-pass host longest 0 0 (e ∷ events) (keeps-here host longest (e ∷ events) h))
    (host-passes host longest events (keeps-later host longest e events h))

of-host-keeps : (hosts longest : ℕ) (events : List Event) → IsWithinSkew hosts longest events → (host : ℕ) → host < hosts → Keeps host longest events
unfolding Keeps
of-host-keeps hosts longest events h host below before part after split few =
    h before part after (split ∙ sym (append_assoc before part after)) host below few

fewer-hosts : (hosts longest : ℕ) (events : List Event) → IsWithinSkew (suc hosts) longest events → IsWithinSkew hosts longest events
fewer-hosts hosts longest events h before part after split host below few = h before part after split host (omega arith) few

test-passes : (hosts longest : ℕ) (events : List Event) → IsWithinSkew hosts longest events → is_within_skew hosts longest events ≡ true
test-passes zero longest events h = refl
test-passes (suc host) longest events h =
    and_from
    (host_within host longest events)
    (is_within_skew host longest events)
    (host-passes host longest events (of-host-keeps (suc host) longest events h host (omega arith)))
    (test-passes host longest events (fewer-hosts host longest events h))

pub tells-skew : TellsSkew
tells-skew hosts longest events = record {
  sound = skew-test-is-sound hosts longest events;
  complete = test-passes hosts longest events;
}

-- what a choice between nothing and something says
none-chosen : {A : Type 0} (test : Bool) (o : Option A) (x : A) → (if test then o else Some x) ≡ None → (test ≡ true) × (o ≡ None)
none-chosen true o x h = (refl, h)
none-chosen false o x h = absurd (cc)

some-chosen : {A : Type 0} (test : Bool) (o : Option A) (x y : A) → (if test then o else Some x) ≡ Some y → ((test ≡ true) × (o ≡ Some y))
    ⊎ ((test ≡ false) × (x ≡ y))
some-chosen true o x y h = inl (refl, h)
some-chosen false o x y h = inr (refl, cc)

passed : {A : Type 0} (test : Bool) (o : Option A) (x : A) → test ≡ true → o ≡ None → (if test then o else Some x) ≡ None
passed true o x h n = n
passed false o x h n = absurd (cc)

-- nothing is named exactly where the test of parts passes
none-named : (host longest client server : ℕ) (events : List Event) → broken_from host longest client server events ≡ None → parts_within host longest
    client server events ≡ true
none-named host longest client server [] h = (none-chosen (part_within longest client server) None (record {
  host = host;
  server = server;
  client =
      client;
}) h).0
none-named host longest client server (e ∷ events) h =
    let both = none-chosen (part_within longest client server) (broken_from host longest (is_tick_of host e + client) (is_server_tick e + server)
    events) (record { host = host; server = server; client = client }) h in
    and_from
    (part_within longest client server)
    (parts_within host longest (is_tick_of host e + client) (is_server_tick e + server) events)
    both.0
    (none-named host longest (is_tick_of host e + client) (is_server_tick e + server) events both.1)

names-none : (host longest client server : ℕ) (events : List Event) → parts_within host longest client server events ≡ true → broken_from host longest
    client server events ≡ None
names-none host longest client server [] h = passed (part_within longest client server) None (record { host = host; server = server; client = client }) h refl
names-none host longest client server (e ∷ events) h =
    let both = and_parts (part_within longest client server) (parts_within host longest (is_tick_of host e + client) (is_server_tick e + server) events) h in
    passed
    (part_within longest client server)
    (broken_from host longest (is_tick_of host e + client) (is_server_tick e + server) events)
    (record { host = host; server = server; client = client })
    both.0
    (names-none host longest (is_tick_of host e + client) (is_server_tick e + server) events both.1)

-- no part that ends now breaks the rule
none-breaks : (host longest : ℕ) (events part : List Event) → broken_from host longest 0 0 events ≡ None → EndsNow part events → Breaks host longest part → ⊥
none-breaks host longest events part none ends breaks =
    let passes : parts_within host longest 0 0 (part ++ ends.before) ≡ true = subst (λ es. parts_within host longest 0 0 es ≡ true) ends.split
    (none-named host longest 0 0 events none) in
    let few = breaks.few in
    let more = breaks.more in
    let keeps : server_ticks part + 0 ≤ ticks_of host part + 0 + skew = begins-here host longest 0 0 part ends.before passes (omega arith) in
    omega arith

-- what is named, where so many ticks were counted already
record FoundFrom (host longest client server : ℕ) (events : List Event) (b : SkewBroken) : Type 0 where
  part : List Event
  before : List Event
  split : events ≡ part ++ before
  host_is : b.host ≡ host
  client_is : b.client ≡ ticks_of host part + client
  server_is : b.server ≡ server_ticks part + server
  few : b.client ≤ longest
  more : b.client + skew < b.server
  fewest : (other after : List Event) → events ≡ other ++ after → ticks_of host other + client ≤ longest → ticks_of host other + client + skew
      < server_ticks other + server → b.client ≤ ticks_of host other + client

part-breaks : (longest client server : ℕ) → part_within longest client server ≡ false → (client ≤ longest) × (client + skew < server)
part-breaks longest client server h = grind (arith, nat_tests)

-- what breaks the rule at once has the fewest ticks
found-here : (host longest client server : ℕ) (events : List Event) (b : SkewBroken) → part_within longest client server ≡ false
    → record { host = host; server = server; client = client } ≡ b → FoundFrom host longest client server events b
found-here host longest client server events b h is =
    let broken = part-breaks longest client server h in
    let few = broken.0 in
    let more = broken.1 in
    let host_same : b.host ≡ host = ap (λ (x : SkewBroken). x.host) (sym is) in
    let client_same : b.client ≡ client = ap (λ (x : SkewBroken). x.client) (sym is) in
    let server_same : b.server ≡ server = ap (λ (x : SkewBroken). x.server) (sym is) in
    record {
      part = [];
      before = events;
      split = refl;
      host_is = host_same;
      client_is = omega arith;
      server_is = omega arith;
      few = omega arith;
      more = omega arith;
      fewest = λ other after split within broken. omega arith;
    }

-- no later part that breaks it has fewer
FewestFrom : (host longest client server count : ℕ) → List Event → Type 0
FewestFrom host longest client server count events =
    (other after : List Event)
    → events ≡ other ++ after
    → ticks_of host other + client ≤ longest
    → ticks_of host other + client + skew < server_ticks other + server
    → count ≤ ticks_of host other + client

fewest-later : (host longest client server count : ℕ) (e : Event) (events : List Event) → part_within longest client server ≡ true
    → FewestFrom host longest (is_tick_of host e + client) (is_server_tick e + server) count events → FewestFrom host longest client server count (e ∷ events)
unfolding FewestFrom
fewest-later host longest client server count e events h fewest [] after split few more =
    let keeps : server ≤ client + skew = part-says longest client server h (omega arith) in absurd (omega arith)
fewest-later host longest client server count e events h fewest (o ∷ other) after split few more =
    let same : o ≡ e = cc in
    let client_same : is_tick_of host o ≡ is_tick_of host e = ap (is_tick_of host) same in
    let server_same : is_server_tick o ≡ is_server_tick e = ap is_server_tick same in
    let said : count ≤ ticks_of host other + (is_tick_of host e + client) = fewest other after (cc) (omega arith) (omega arith) in
    omega arith

-- what breaks it later
found-later : (host longest client server : ℕ) (e : Event) (events : List Event) (b : SkewBroken) → part_within longest client server ≡ true
    → FoundFrom host longest (is_tick_of host e + client) (is_server_tick e + server) events b → FoundFrom host longest client server (e ∷ events) b
unfolding FewestFrom
found-later host longest client server e events b h found = record {
  part = e ∷ found.part;
  before = found.before;
  split = ap (λ es. e ∷ es) found.split;
  host_is = found.host_is;
  client_is = let said = found.client_is in omega arith;
  server_is = let said = found.server_is in omega arith;
  few = found.few;
  more = found.more;
  fewest = fewest-later host longest client server b.client e events h found.fewest;
}

named-found : (host longest client server : ℕ) (events : List Event) (b : SkewBroken) → broken_from host longest client server events ≡ Some b
    → FoundFrom host longest client server events b
named-found host longest client server [] b h =
    elim (some-chosen (part_within longest client server) None (record { host = host; server = server; client = client }) b h) [
      | inl (passes, none) ↦ absurd (cc)
      | inr (breaks, is) ↦ found-here host longest client server [] b breaks is
    ]
named-found host longest client server (e ∷ events) b h =
    elim (some-chosen (part_within longest client server) (broken_from host longest (is_tick_of host e + client) (is_server_tick e + server) events)
    (record { host = host; server = server; client = client }) b h) [
      | inl (passes, later) ↦ found-later host longest client server e events b passes (named-found host longest (is_tick_of host e + client)
          (is_server_tick e + server) events b later)
      | inr (breaks, is) ↦ found-here host longest client server (e ∷ events) b breaks is
    ]

-- what is named for a host has the fewest ticks
of-one : (host longest : ℕ) (events : List Event) (b : SkewBroken) → broken_from host longest 0 0 events ≡ Some b → (b.host ≡ host) × IsFewest longest events b
of-one host longest events b h =
    let found = named-found host longest 0 0 events b h in
    let at = found.host_is in
    let client : b.client ≡ ticks_of b.host found.part = subst (λ k. b.client ≡ ticks_of k found.part) (sym at) (let said = found.client_is in omega arith) in
    let server : b.server ≡ server_ticks found.part = let said = found.server_is in omega arith in
    let few = found.few in
    let more = found.more in (
      at,
      record {
        part = found.part;
        ends = record { before = found.before; split = found.split };
        breaks = record { few = omega arith; more = omega arith };
        client = client;
        server = server;
        fewest = λ other ends breaks.
            let same : ticks_of b.host other ≡ ticks_of host other = ap (λ k. ticks_of k other) at in
            let few_other = breaks.few in
            let more_other = breaks.more in
            let said = found.fewest other ends.before ends.split (omega arith) (omega arith) in
            omega arith;
      },
    )

first-found : (a b : Option SkewBroken) (x : SkewBroken) → found_first a b ≡ Some x → (a ≡ Some x) ⊎ ((a ≡ None) × (b ≡ Some x))
first-found None b x h = inr (refl, h)
first-found (Some a) b x h = inl h

none-first : (a b : Option SkewBroken) → found_first a b ≡ None → (a ≡ None) × (b ≡ None)
none-first None b h = (refl, h)
none-first (Some a) b h = absurd (cc)

both-none : (a b : Option SkewBroken) → a ≡ None → b ≡ None → found_first a b ≡ None
both-none None b h n = n
both-none (Some a) b h n = absurd (cc)

none-lowest : (hosts longest : ℕ) (events : List Event) → lowest_broken hosts longest events ≡ None → (host : ℕ) → host < hosts
    → broken_from host longest 0 0 events ≡ None
none-lowest zero longest events h host below = absurd (omega arith)
none-lowest (suc hosts) longest events h host below =
    let both = none-first (lowest_broken hosts longest events) (broken_from hosts longest 0 0 events) h in
    below_more (λ k. broken_from k longest 0 0 events ≡ None) hosts (none-lowest hosts longest events both.0) both.1 host (omega arith)

lowest-none : (hosts longest : ℕ) (events : List Event) → ((host : ℕ) → host < hosts → broken_from host longest 0 0 events ≡ None)
    → lowest_broken hosts longest events ≡ None
lowest-none zero longest events h = refl
lowest-none (suc hosts) longest events h =
    both-none
    (lowest_broken hosts longest events)
    (broken_from hosts longest 0 0 events)
    (lowest-none hosts longest events (λ host below. h host (omega arith)))
    (h hosts (omega arith))

lowest-named : (hosts longest : ℕ) (events : List Event) (b : SkewBroken) → lowest_broken hosts longest events ≡ Some b → IsLowest hosts longest events b
lowest-named zero longest events b h = absurd (cc)
lowest-named (suc hosts) longest events b h =
    elim (first-found (lowest_broken hosts longest events) (broken_from hosts longest 0 0 events) b h) [
      | inl lower ↦
          let said = lowest-named hosts longest events b lower in
          let below = said.below in
          record { below = omega arith; fewest = said.fewest; lowest = said.lowest }
      | inr (none, here) ↦
          let said = of-one hosts longest events b here in
          let at = said.0 in
          record {
            below = omega arith;
            fewest = said.1;
            lowest = λ host part lower ends breaks. none-breaks host longest events part (none-lowest hosts longest events none host (omega arith))
                ends breaks;
          }
    ]

-- one tick more
keeps-on : (hosts longest : ℕ) (events : List Event) → IsWithinSkew hosts longest events → lowest_broken hosts longest (Event.ServerTick ∷ events)
    ≡ None → IsWithinSkew hosts longest (Event.ServerTick ∷ events)
keeps-on hosts longest events within none [] part after split host below few =
    let passes : parts_within host longest 0 0 (part ++ after) ≡ true = subst (λ es. parts_within host longest 0 0 es ≡ true) split
    (none-named host longest 0 0 (Event.ServerTick ∷ events) (none-lowest hosts longest (Event.ServerTick ∷ events) none host below)) in
    let said : server_ticks part + 0 ≤ ticks_of host part + 0 + skew = begins-here host longest 0 0 part after passes (omega arith) in
    omega arith
keeps-on hosts longest events within none (b ∷ before) part after split host below few = within before part after (cc) host below few

one-more-tick : (host longest : ℕ) (events part before : List Event) → Keeps host longest events → Event.ServerTick ∷ events ≡ part ++ before
    → ticks_of host part ≤ longest → ticks_of host part + skew < server_ticks part → server_ticks part ≡ ticks_of host part + skew + 1
unfolding Keeps
one-more-tick host longest events [] before keeps split few more = absurd (omega arith)
one-more-tick host longest events (e ∷ part) before keeps split few more =
    let same : e ≡ Event.ServerTick = cc in
    let client_same : is_tick_of host e ≡ 0 = ap (is_tick_of host) same in
    let server_same : is_server_tick e ≡ 1 = ap is_server_tick same in
    let said : server_ticks part ≤ ticks_of host part + skew = keeps [] part before (cc) (omega arith) in
    omega arith

one-more : (hosts longest : ℕ) (events : List Event) (b : SkewBroken) → IsWithinSkew hosts longest events → IsLowest hosts longest (Event.ServerTick
    ∷ events) b → b.server ≡ b.client + skew + 1
one-more hosts longest events b within named =
    let fewest = named.fewest in
    let client = fewest.client in
    let server = fewest.server in
    let said = one-more-tick b.host longest events fewest.part fewest.ends.before (of-host-keeps hosts longest events within b.host named.below)
    fewest.ends.split fewest.breaks.few fewest.breaks.more in
    omega arith

pub each-tick-is-judged : EachTickIsJudged
each-tick-is-judged hosts longest events within = record {
  within = keeps-on hosts longest events within;
  refused = λ still. lowest-none hosts longest (Event.ServerTick ∷ events) (λ host below. names-none host longest 0 0 (Event.ServerTick ∷ events)
      (parts-pass host longest 0 0 (Event.ServerTick ∷ events) (keeps-here host longest (Event.ServerTick ∷ events) (of-host-keeps hosts longest
      (Event.ServerTick ∷ events) still host below))));
  named = λ b said. lowest-named hosts longest (Event.ServerTick ∷ events) b said;
  one_more = λ b said. one-more hosts longest events b within (lowest-named hosts longest (Event.ServerTick ∷ events) b said);
}
