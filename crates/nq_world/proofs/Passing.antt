-- What is known of an event that passed the tests.
use Rattle.std.proofs.Common.{◌≡◌, ◌<◌, ◌≤◌, ℕ, Bool, true, false, List, Option, Some, None, length, refl, sym, ◌∙◌, arith}
use Rattle.std.proofs.lemmas.Bool.{ltb-true}
use Rattle.std.proofs.lemmas.Bool.Decides.{nat_tests}
use Rattle.std.specs.Prelude.{nat_lt, if◌then◌else◌}
use Rattle.nq_base.specs.declared.Event.{Event}
use Rattle.nq_base.specs.declared.SkewBroken.{SkewBroken}
use Rattle.nq_clock.specs.Counts.{SkewCounts}
use Rattle.nq_model.specs.protocol.SkewBroken.{skew_broken}
use Rattle.nq_model.specs.protocol.Stepped.{Stepped, done, no_packet, too_many_events, too_many_packets, most_events, most_sent, tested_room, tested_skew}
use Rattle.nq_model.specs.protocol.Stepped.{stepped}
use Rattle.nq_model.specs.protocol.World.{Head}
use Rattle.nq_world.proofs.Going.{tests-are-exact}
use Rattle.nq_world.specs.Running.{IsRunOf, tested_seen, stepped_seen}
use Rattle.nq_world.specs.Shown.{Seen}

-- what the tests say beside the number of events and of packets
abbrev pub Allows : (packets : ℕ) (broken : Option SkewBroken) → Event → Type 0
Allows packets broken (Event.Deliver k) = k < packets
Allows packets broken Event.ServerTick = broken ≡ None
Allows packets broken other = Unit {0}

-- an event passed the tests
pub record Passes (events packets : ℕ) (broken : Option SkewBroken) (event : Event) : Type 0 where
  pub few : events < most_events
  pub room : packets ≤ most_sent
  pub allows : Allows packets broken event

-- a test that was passed, where its other answer is not `done`
pub record IsPassed (b : Bool) (x : Stepped) : Type 0 where
  pub true_is : b ≡ true
  pub then_done : x ≡ done

passed : (b : Bool) (x y : Stepped) → (if b then x else y) ≡ done → (y ≡ done → ⊥) → IsPassed b x
passed true x y e other = record { true_is = refl; then_done = e }
passed false x y e other = absurd (other e)

passed-else : (b : Bool) (x y : Stepped) → (if b then x else y) ≡ done → (x ≡ done → ⊥) → b ≡ false
passed-else true x y e other = absurd (other e)
passed-else false x y e other = refl

room-passed : (packets : ℕ) → tested_room packets ≡ done → packets ≤ most_sent
room-passed packets e =
    let not_more : nat_lt most_sent packets ≡ false = passed-else (nat_lt most_sent packets) too_many_packets done e (λ x. absurd (cc)) in
    grind (arith, nat_tests)

skew-passed : (packets : ℕ) (broken : Option SkewBroken) → tested_skew packets broken ≡ done → (broken ≡ None) × (packets ≤ most_sent)
skew-passed packets None e = (refl, room-passed packets e)
skew-passed packets (Some b) e = absurd (cc)

sent-passed : (k packets : ℕ) → (if nat_lt k packets then tested_room packets else no_packet) ≡ done → (k < packets) × (packets ≤ most_sent)
sent-passed k packets e =
    let both = passed (nat_lt k packets) (tested_room packets) no_packet e (λ x. absurd (cc)) in
    (ltb-true k packets both.true_is, room-passed packets both.then_done)

tested-passes : (events packets : ℕ) (broken : Option SkewBroken) (event : Event) → events < most_events → tested_seen broken packets event ≡ done
    → Passes events packets broken event
tested-passes events packets broken (Event.Deliver k) few e = let both = sent-passed k packets e in record { few = few; room = both.1; allows = both.0 }
tested-passes events packets broken Event.ServerTick few e = let both = skew-passed packets broken e in record { few = few; room = both.1; allows = both.0 }
tested-passes events packets broken (Event.Call host op) few e = record { few = few; room = room-passed packets e; allows = tt }
tested-passes events packets broken (Event.ClientTick host) few e = record { few = few; room = room-passed packets e; allows = tt }
tested-passes events packets broken (Event.Restart host) few e = record { few = few; room = room-passed packets e; allows = tt }
tested-passes events packets broken (Event.Crash longest) few e = record { few = few; room = room-passed packets e; allows = tt }

seen-passes : (events packets : ℕ) (broken : Option SkewBroken) (event : Event) → stepped_seen events packets broken event ≡ done
    → Passes events packets broken event
seen-passes events packets broken event e =
    let both = passed (nat_lt events most_events) (tested_seen broken packets event) too_many_events e (λ x. absurd (cc)) in
    tested-passes events packets broken event (ltb-true events most_events both.true_is) both.then_done

-- an event that the protocol takes in passed the tests of what is seen
pub done-passes : (head : Head) (events : List Event) (seen : Seen) (skew : SkewCounts) (event : Event) → IsRunOf head events seen skew
    → stepped head events event ≡ done
    → Passes (length events) (length seen.datagrams) (skew_broken (length skew.hosts) skew.window events) event
done-passes head events seen skew event r e =
    seen-passes (length events) (length seen.datagrams) (skew_broken (length skew.hosts) skew.window events) event
    (sym (tests-are-exact head events seen skew event r) ∙ e)
