-- An event that is refused for a limit comes after so many events or packets.
use Rattle.std.proofs.Common.{◌≡◌, ℕ, ◌<◌, Bool, true, false, List, length, Option, Some, None, inl, inr, sym, subst, arith}
use Rattle.std.proofs.lemmas.Bool.{cases_lt}
use Rattle.std.proofs.lemmas.Bool.Decides.{nat_tests}
use Rattle.std.specs.Prelude.{nat_lt, if◌then◌else◌}
use Rattle.nq_base.specs.declared.Event.{Event}
use Rattle.nq_base.specs.declared.SkewBroken.{SkewBroken}
use Rattle.nq_model.specs.protocol.SkewBroken.{skew_broken}
use Rattle.nq_model.specs.protocol.Stepped.{Stepped as Answer, no_packet, too_many_events, most_events, most_sent, stepped, tested, tested_room, tested_skew}
use Rattle.nq_model.specs.protocol.World.{Head, run}
use Rattle.nq_replay.specs.Reaching.{IsReached}
use Rattle.nq_world.specs.Answering.{told as answer_of}
use Rattle.nq_world.specs.declared.stepped.Limit.{Limit}
use Rattle.nq_world.specs.declared.stepped.Stepped.{Stepped}

-- the limit is that of packets, and it is reached
abbrev OfPackets : Limit → (packets : ℕ) → Type 0
OfPackets limit packets = (limit ≡ Limit.Packets) × (most_sent < packets)

of-room : (packets : ℕ) (limit : Limit) → answer_of (tested_room packets) ≡ Stepped.Limit limit → OfPackets limit packets
of-room packets limit is =
    elim (cases_lt most_sent packets) [
      | inl over ↦
          let test : nat_lt most_sent packets ≡ true = grind (arith, nat_tests) in
          let said : Stepped.Limit Limit.Packets ≡ Stepped.Limit limit = rw test at is in
          let same : limit ≡ Limit.Packets = cc in
          (same, over)
      | inr under ↦
          let test : nat_lt most_sent packets ≡ false = grind (arith, nat_tests) in
          let said : Stepped.Done ≡ Stepped.Limit limit = rw test at is in
          absurd (cc)
    ]

of-sent : (sent : Bool) (packets : ℕ) (limit : Limit) → answer_of (if sent then tested_room packets else no_packet) ≡ Stepped.Limit limit
    → OfPackets limit packets
of-sent true packets limit is = of-room packets limit is
of-sent false packets limit is = absurd (cc)

of-skew : (packets : ℕ) (broken : Option SkewBroken) (limit : Limit) → answer_of (tested_skew packets broken) ≡ Stepped.Limit limit → OfPackets limit packets
of-skew packets None limit is = of-room packets limit is
of-skew packets (Some broken) limit is = absurd (cc)

of-tested : (head : Head) (earlier : List Event) (packets : ℕ) (event : Event) (limit : Limit) → answer_of (tested head earlier packets event)
    ≡ Stepped.Limit limit → OfPackets limit packets
of-tested head earlier packets (Event.Call host call) limit is = of-room packets limit is
of-tested head earlier packets (Event.Deliver k) limit is = of-sent (nat_lt k packets) packets limit is
of-tested head earlier packets Event.ServerTick limit is = of-skew packets (skew_broken head.hosts head.longest earlier) limit is
of-tested head earlier packets (Event.ClientTick host) limit is = of-room packets limit is
of-tested head earlier packets (Event.Restart host) limit is = of-room packets limit is
of-tested head earlier packets (Event.Crash longest) limit is = of-room packets limit is

of-events : (events packets : ℕ) (answer : Answer) (limit : Limit) → (answer_of answer ≡ Stepped.Limit limit → OfPackets limit packets)
    → answer_of (if nat_lt events most_events then answer else too_many_events) ≡ Stepped.Limit limit → IsReached limit events packets
of-events events packets answer limit reached is =
    elim (cases_lt events most_events) [
      | inl few ↦
          let test : nat_lt events most_events ≡ true = grind (arith, nat_tests) in
          let here = reached (rw test at is) in
          subst (λ l. IsReached l events packets) (sym here.0) (few, here.1)
      | inr many ↦
          let test : nat_lt events most_events ≡ false = grind (arith, nat_tests) in
          let said : Stepped.Limit Limit.Events ≡ Stepped.Limit limit = rw test at is in
          let same : Limit.Events ≡ limit = cc in
          subst (λ l. IsReached l events packets) same many
    ]

-- what a world tells that refuses an event for a limit
pub is_reached : (head : Head) (events : List Event) (event : Event) (limit : Limit) → answer_of (stepped head events event) ≡ Stepped.Limit limit
    → IsReached limit (length events) (length (run head events).packets)
is_reached head events event limit is =
    of-events (length events) (length (run head events).packets) (tested head events (length (run head events).packets) event) limit
    (of-tested head events (length (run head events).packets) event limit) is

-- the same of as many events and packets
pub reached_at : (limit : Limit) (earlier sent events packets : ℕ) → earlier ≡ events → sent ≡ packets → IsReached limit earlier sent
    → IsReached limit events packets
reached_at limit earlier sent events packets many all reached = subst (λ n. IsReached limit n packets) many (subst (λ n. IsReached limit earlier n)
    all reached)
