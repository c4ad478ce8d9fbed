-- The inner world answers an event as the tests over what travels outside do.
use Rattle.std.proofs.Common.{◌≡◌, ◌≤◌, ◌<◌, ℕ, Bool, true, false, List, ◌∷◌, length, Option, Some, None, refl, sym, ap, subst, ◌∙◌, arith}
use Rattle.std.proofs.lemmas.Bool.Decides.{nat_tests}
use Rattle.std.specs.Prelude.{nat_lt, slice_get, if◌then◌else◌}
use Rattle.nq_base.specs.declared.Event.{Event}
use Rattle.nq_base.specs.declared.SkewBroken.{SkewBroken}
use Rattle.nq_model.proofs.SkewNames.{each-tick-is-judged}
use Rattle.nq_model.specs.protocol.Skew.{IsWithinSkew}
use Rattle.nq_model.specs.protocol.SkewBroken.{skew_broken}
use Rattle.nq_model.specs.protocol.Stepped.{Stepped as Answer, done, no_packet, out_of_skew, too_many_events, too_many_packets, most_events, most_sent}
use Rattle.nq_model.specs.protocol.Stepped.{stepped, tested, tested_room, tested_skew}
use Rattle.nq_model.specs.protocol.World.{Head, run}
use Rattle.nq_stage.specs.declared.run.event.StagedEvent.{StagedEvent}
use Rattle.nq_stage.specs.Outer.{Outer, Outside}
use Rattle.nq_stage.specs.Outside.{outside_run}
use Rattle.nq_stage.proofs.Inner.{runs-inside}
use Rattle.nq_world.specs.Answering.{told as answer_of}
use Rattle.nq_world.specs.declared.Stepped.{Stepped}
use Rattle.nq_staged.proofs.Bounded.{few-run, runs-fine}
use Rattle.nq_staged.specs.Worlds.{IsLeft, IsTested, stepped_outside, tested_outside}

-- ---- tests

pub left-first : (few : Bool) (x : Answer) → IsLeft (if few then x else too_many_events) → (few ≡ true) × IsLeft x
left-first true x left = (refl, left)
left-first false x left = absurd left

less-more : (a b m : ℕ) → a ≤ b → nat_lt b m ≡ true → nat_lt a m ≡ true
less-more a b m less is = grind (arith, nat_tests)

more-less : (a b m : ℕ) → a ≤ b → nat_lt m b ≡ false → nat_lt m a ≡ false
more-less a b m less is = grind (arith, nat_tests)

room-left : (over : Bool) → IsLeft (if over then too_many_packets else done) → over ≡ false
room-left true left = absurd left
room-left false left = refl

room-agrees : (packets sent : ℕ) → packets ≤ sent → IsLeft (tested_room sent) → tested_room packets ≡ tested_room sent
room-agrees packets sent less left =
    let none : nat_lt most_sent sent ≡ false = room-left (nat_lt most_sent sent) left in
    let also : nat_lt most_sent packets ≡ false = more-less packets sent most_sent less none in
    ap (λ b. if b then too_many_packets else done) also ∙ sym (ap (λ b. if b then too_many_packets else done) none)

room-done : (sent : ℕ) → IsLeft (tested_room sent) → tested_room sent ≡ done
room-done sent left =
    let none : nat_lt most_sent sent ≡ false = room-left (nat_lt most_sent sent) left in
    ap (λ b. if b then too_many_packets else done) none

skew-agrees : (packets sent : ℕ) (broken : Option SkewBroken) → packets ≤ sent → IsLeft (tested_skew sent broken) → tested_skew packets broken
    ≡ tested_skew sent broken
skew-agrees packets sent None less left = room-agrees packets sent less left
skew-agrees packets sent (Some broken) less left = refl

sent-left : (there : Bool) (sent : ℕ) → IsLeft (if there then tested_room sent else no_packet) → (there ≡ true) × IsLeft (tested_room sent)
sent-left true sent left = (refl, left)
sent-left false sent left = absurd left

-- both count events first
both-few : (few few' : Bool) (x y : Answer) → few ≡ true → few' ≡ true → y ≡ x → (if few' then y else too_many_events) ≡ (if few then x else too_many_events)
both-few few few' x y a b same = ap (λ t. if t then y else too_many_events) b ∙ same ∙ sym (ap (λ t. if t then x else too_many_events) a)

-- ---- an event that is no delivery

abbrev pub NoDelivery : Event → Type 0
NoDelivery (Event.Deliver k) = ⊥
NoDelivery other = Unit {0}

pub no-delivery : (event : Event) → ((k : ℕ) → event ≡ Event.Deliver k → ⊥) → NoDelivery event
no-delivery (Event.Deliver k) other = absurd (other k refl)
no-delivery event other = tt

tests-agree : (head : Head) (o : Outside) (event : Event) (packets : ℕ) → NoDelivery event → packets ≤ length o.sent
    → IsLeft (tested_outside head o (StagedEvent.Plain event)) → tested head o.ran packets event ≡ tested_outside head o (StagedEvent.Plain event)
tests-agree head o (Event.Call host op) packets free less left = room-agrees packets (length o.sent) less left
tests-agree head o (Event.Deliver k) packets free less left = absurd free
tests-agree head o Event.ServerTick packets free less left = skew-agrees packets (length o.sent) (skew_broken head.hosts head.longest o.ran) less left
tests-agree head o (Event.ClientTick host) packets free less left = room-agrees packets (length o.sent) less left
tests-agree head o (Event.Restart host) packets free less left = room-agrees packets (length o.sent) less left
tests-agree head o (Event.Crash longest) packets free less left = room-agrees packets (length o.sent) less left

packets-run : (head : Head) (events : List StagedEvent) → length (run head (outside_run head events).ran).packets ≤ length (outside_run head events).sent
packets-run head events =
    subst (λ w. length w.packets ≤ length (outside_run head events).sent) (runs-inside head events) (runs-fine head events).many

few-inner : (head : Head) (events : List StagedEvent) → nat_lt (length events) most_events ≡ true → nat_lt (length (outside_run head events).ran)
    most_events ≡ true
few-inner head events few = less-more (length (outside_run head events).ran) (length events) most_events (few-run head events) few

pub inner-agrees : (head : Head) (events : List StagedEvent) (event : Event) → NoDelivery event
    → IsLeft (stepped_outside head events (StagedEvent.Plain event)) → stepped head (outside_run head events).ran event ≡ stepped_outside head events
    (StagedEvent.Plain event)
inner-agrees head events event free left =
    let o = outside_run head events in
    let first = left-first (nat_lt (length events) most_events) (tested_outside head o (StagedEvent.Plain event)) left in
    both-few (nat_lt (length events) most_events) (nat_lt (length o.ran) most_events) (tested_outside head o (StagedEvent.Plain event))
    (tested head o.ran (length (run head o.ran).packets) event)
    first.0 (few-inner head events first.0) (tests-agree head o event (length (run head o.ran).packets) free (packets-run head events) first.1)

-- ---- what is left and breaks no rule on skew was to be taken

pub stage-done : (head : Head) (events : List StagedEvent) (host : ℕ) → IsLeft (stepped_outside head events (StagedEvent.Stage host))
    → stepped_outside head events (StagedEvent.Stage host) ≡ done
stage-done head events host left =
    let o = outside_run head events in
    let first = left-first (nat_lt (length events) most_events) (tested_room (length o.sent)) left in
    ap (λ t. if t then tested_room (length o.sent) else too_many_events) first.0 ∙ room-done (length o.sent) first.1

pub deliver-done : (head : Head) (events : List StagedEvent) (k : ℕ) → IsLeft (stepped_outside head events (StagedEvent.Plain (Event.Deliver k)))
    → stepped_outside head events (StagedEvent.Plain (Event.Deliver k)) ≡ done
deliver-done head events k left =
    let o = outside_run head events in
    let there = nat_lt k (length o.sent) in
    let first = left-first (nat_lt (length events) most_events) (if there then tested_room (length o.sent) else no_packet) left in
    let second = sent-left there (length o.sent) first.1 in
    ap (λ t. if t then (if there then tested_room (length o.sent) else no_packet) else too_many_events) first.0
    ∙ ap (λ t. if t then tested_room (length o.sent) else no_packet) second.0
    ∙ room-done (length o.sent) second.1

-- ---- a delivery

-- the delivery of an inner packet for which a packet stands that travels
pub deliver-agrees : (head : Head) (events : List StagedEvent) (n k : ℕ) (p : Outer) → slice_get (outside_run head events).sent n ≡ Some p → p.stands
    ≡ Some k → IsLeft (stepped_outside head events (StagedEvent.Plain (Event.Deliver n)))
    → stepped head (outside_run head events).ran (Event.Deliver k) ≡ stepped_outside head events (StagedEvent.Plain (Event.Deliver n))
deliver-agrees head events n k p there stands left =
    let o = outside_run head events in
    let there' = nat_lt n (length o.sent) in
    let first = left-first (nat_lt (length events) most_events) (if there' then tested_room (length o.sent) else no_packet) left in
    let second = sent-left there' (length o.sent) first.1 in
    let packets = length (run head o.ran).packets in
    let below : k < packets = subst (λ w. k < length w.packets) (runs-inside head events) ((runs-fine head events).bounded.sent n p there k stands) in
    let inside : nat_lt k packets ≡ true = grind (arith, nat_tests) in
    let room : tested_room packets ≡ done = room-agrees packets (length o.sent) (packets-run head events) second.1 ∙ room-done (length o.sent) second.1 in
    ap (λ t. if t then tested head o.ran packets (Event.Deliver k) else too_many_events) (few-inner head events first.0)
    ∙ ap (λ t. if t then tested_room packets else no_packet) inside
    ∙ room
    ∙ sym (deliver-done head events n left)

-- ---- the tests of the code

tested-as : (answer : Answer) → ((b : SkewBroken) → answer ≡ out_of_skew b → ⊥) → IsTested (answer_of answer) answer
tested-as done free = tt
tested-as no_packet free = refl
tested-as (out_of_skew broken) free = absurd (free broken refl)
tested-as too_many_events free = refl
tested-as too_many_packets free = refl

pub tested-is : (said : Stepped) (answer : Answer) → said ≡ answer_of answer → ((b : SkewBroken) → answer ≡ out_of_skew b → ⊥) → IsTested said answer
tested-is said answer is free = subst (λ s. IsTested s answer) (sym is) (tested-as answer free)

room-no-skew : (over : Bool) (b : SkewBroken) → (if over then too_many_packets else done) ≡ out_of_skew b → ⊥
room-no-skew true b is = cc
room-no-skew false b is = cc

pub no-skew-room : (sent : ℕ) (b : SkewBroken) → tested_room sent ≡ out_of_skew b → ⊥
no-skew-room sent b is = room-no-skew (nat_lt most_sent sent) b is

tested-other : (head : Head) (o : Outside) (event : Event) → ((k : ℕ) → event ≡ Event.Deliver k → ⊥) → (event ≡ Event.ServerTick → ⊥)
    → tested_outside head o (StagedEvent.Plain event) ≡ tested_room (length o.sent)
tested-other head o (Event.Deliver k) delivery tick = absurd (delivery k refl)
tested-other head o Event.ServerTick delivery tick = absurd (tick refl)
tested-other head o other delivery tick = refl

-- any other event is tested for room alone
pub other-tested : (head : Head) (o : Outside) (event : Event) (sent : ℕ) (said : Stepped) → ((k : ℕ) → event ≡ Event.Deliver k → ⊥)
    → (event ≡ Event.ServerTick → ⊥) → length o.sent ≡ sent → said ≡ answer_of (tested_room sent)
    → IsTested said (tested_outside head o (StagedEvent.Plain event))
other-tested head o event sent said delivery tick same is =
    subst (λ a. IsTested said a) (sym (tested-other head o event delivery tick ∙ ap tested_room same)) (tested-is said (tested_room sent) is
    (no-skew-room sent))

-- a tick that keeps the rule, and one that breaks it
pub tick-lawful : (hosts longest sent : ℕ) (earlier : List Event) (said : Stepped) → IsWithinSkew hosts longest earlier → IsWithinSkew hosts longest
    (Event.ServerTick ∷ earlier) → said ≡ answer_of (tested_room sent) → IsTested said (tested_skew sent (skew_broken hosts longest earlier))
tick-lawful hosts longest sent earlier said within next is =
    let none : skew_broken hosts longest earlier ≡ None = (each-tick-is-judged hosts longest earlier within).refused next in
    subst (λ b. IsTested said (tested_skew sent b)) (sym none) (tested-is said (tested_room sent) is (no-skew-room sent))

tick-left : (sent : ℕ) (b : Option SkewBroken) → (b ≡ None → ⊥) → IsTested Stepped.Done (tested_skew sent b)
tick-left sent None free = absurd (free refl)
tick-left sent (Some b) free = tt

pub tick-unlawful : (hosts longest sent : ℕ) (earlier : List Event) → IsWithinSkew hosts longest earlier
    → (IsWithinSkew hosts longest (Event.ServerTick ∷ earlier) → ⊥) → IsTested Stepped.Done (tested_skew sent (skew_broken hosts longest earlier))
tick-unlawful hosts longest sent earlier within not = tick-left sent (skew_broken hosts longest earlier)
    (λ none. not ((each-tick-is-judged hosts longest earlier within).within none))

-- what is left to be delivered travels
pub deliver-there : (head : Head) (events : List StagedEvent) (n : ℕ) → IsLeft (stepped_outside head events (StagedEvent.Plain (Event.Deliver n)))
    → n < length (outside_run head events).sent
deliver-there head events n left =
    let o = outside_run head events in
    let there = nat_lt n (length o.sent) in
    let first = left-first (nat_lt (length events) most_events) (if there then tested_room (length o.sent) else no_packet) left in
    let second = sent-left there (length o.sent) first.1 in
    let is : nat_lt n (length o.sent) ≡ true = second.0 in
    grind (arith, nat_tests)
