-- What is under way stands in order in each play of a calm network, so the delivery of each calm round ends.
use Rattle.std.proofs.Common.{◌≡◌, ◌≤◌, ℕ, ◌+◌, ◌-◌, ◌==◌, ◌++◌, not, Bool, zero, suc, List, [], ◌∷◌, length, sym, ap, subst, ◌∙◌, arith}
use Rattle.std.specs.Prelude.{filter}
use Rattle.std.proofs.lemmas.List.{length-append}
use Rattle.nq_base.specs.declared.Event.{Event}
use Rattle.nq_model.specs.protocol.Lines.{Play, play, play_flow, flow_first, play_hosts, delivered, numbers_from, added}
use Rattle.nq_model.specs.protocol.Message.{Packet}
use Rattle.nq_model.specs.protocol.World.{Head, step, run}
use Rattle.walk_steps.proofs.Steps.{step-changes}
use Rattle.walk_steps.proofs.Rows.{choice}
use Rattle.law_rounds.specs.DeliveryEnds.{AreUnderWay, calmed, enough_deliveries, IsDelivered}
use Rattle.law_rounds.proofs.Final.{delivered as all-delivered}
use Rattle.law_rounds.proofs.Items.{Rise, from-under-way}
use Rattle.law_rounds.specs.CalmRound.{calm_round}
use Rattle.law_rounds.specs.CalmRoundsAreLawful.{IsLawful}
use Rattle.law_rounds.proofs.QuietFlows.{grown}

-- the numbers of what is under way rise, and each was sent
abbrev pub IsRising : Play → Type 0
IsRising p = Rise 0 (length p.world.packets) p.fresh

lower-rise : (lower low high : ℕ) (numbers : List ℕ) → lower ≤ low → Rise low high numbers → Rise lower high numbers
lower-rise lower low high [] less r = omega arith
lower-rise lower low high (k ∷ numbers) less r = (let first = r.0 in omega arith, r.1)

filtered-rise : (low high : ℕ) (f : ℕ → Bool) (numbers : List ℕ) → Rise low high numbers → Rise low high (filter f numbers)
filtered-rise low high f [] r = r
filtered-rise low high f (k ∷ numbers) r =
    let rest = filtered-rise (k + 1) high f numbers r.1 in
    let first : low ≤ k = r.0 in
    choice (Rise low high) (f k) (k ∷ filter f numbers) (filter f numbers) (λ e. (first, rest)) (λ e. lower-rise low (k + 1) high (filter f numbers)
    (omega arith) rest)

from-rise : (first count : ℕ) → Rise first (first + count) (numbers_from first count)
from-rise first zero = omega arith
from-rise first (suc count) = (
  omega arith,
  let same : (first + 1) + count ≡ first + suc count = omega arith in
      subst (λ n. Rise (first + 1) n (numbers_from (first + 1) count)) same (from-rise (first + 1) count),
)

append-rise : (low high count : ℕ) (numbers : List ℕ) → Rise low high numbers → Rise low (high + count) (numbers ++ numbers_from high count)
append-rise low high count [] r = lower-rise low high (high + count) (numbers_from high count) r (from-rise high count)
append-rise low high count (k ∷ numbers) r = (r.0, append-rise (k + 1) high count numbers r.1)

delivered-rise : (high : ℕ) (e : Event) (fresh : List ℕ) → Rise 0 high fresh → Rise 0 high (delivered e fresh)
delivered-rise high (Event.Deliver k) fresh r = filtered-rise 0 high (λ n. not (n == k)) fresh r
delivered-rise high (Event.Call host op) fresh r = r
delivered-rise high Event.ServerTick fresh r = r
delivered-rise high (Event.ClientTick host) fresh r = r
delivered-rise high (Event.Restart host) fresh r = r
delivered-rise high (Event.Crash longest) fresh r = r

pub played-rising : (p : Play) (e : Event) → IsRising p → IsRising (play p e)
played-rising p e r =
    let w = p.world in
    let v = step p.world e in
    let g = grown w v (step-changes w e) in
    let longer : length v.packets ≡ length w.packets + length g.more = ap (λ (ps : List Packet). length ps) g.is ∙ length-append w.packets g.more in
    let count : length v.packets - length w.packets ≡ length g.more = less (length v.packets) (length w.packets) (length g.more) longer in
    let new : added w v ≡ numbers_from (length w.packets) (length g.more) = ap (numbers_from (length w.packets)) count in
    subst (λ n. Rise 0 n (delivered e p.fresh ++ added w v)) (sym longer)
    (subst (λ ns. Rise 0 (length w.packets + length g.more) (delivered e p.fresh ++ ns)) (sym new)
    (append-rise 0 (length w.packets) (length g.more) (delivered e p.fresh) (delivered-rise (length w.packets) e p.fresh r)))
  where
    less : (a b c : ℕ) → a ≡ b + c → a - b ≡ c
    less a b c e = omega arith

first-rising : (fresh : List ℕ) (p : Play) → IsRising p → IsRising (flow_first fresh p)
first-rising [] p r = r
first-rising (k ∷ fresh) p r = played-rising p (Event.Deliver k) r

pub flow-rising : (fuel : ℕ) (p : Play) → IsRising p → IsRising (play_flow fuel p)
flow-rising zero p r = r
flow-rising (suc fuel) p r = flow-rising fuel (flow_first p.fresh p) (first-rising p.fresh p r)

pub hosts-rising : (count host : ℕ) (p : Play) → IsRising p → IsRising (play_hosts count host p)
hosts-rising zero host p r = r
hosts-rising (suc count) host p r = hosts-rising count (host + 1) (play p (Event.ClientTick host)) (played-rising p (Event.ClientTick host) r)

pub round-rising : (p : Play) → IsRising p → IsRising (calm_round p)
unfolding calm_round
round-rising p r =
    let q = play_flow (enough_deliveries p) p in
    let ticked = play_hosts (length q.world.clients) 0 q in
    played-rising ticked Event.ServerTick (hosts-rising (length q.world.clients) 0 q (flow-rising (enough_deliveries p) p r))

pub calmed-rising : (head : Head) (events : List Event) (under_way : List ℕ) → AreUnderWay (length (run head events).packets) under_way
    → IsRising (calmed head events under_way)
unfolding calmed
calmed-rising head events under_way all = from-under-way (length (run head events).packets) under_way all

-- the delivery of a lawful play ends
pub lawful-delivers : (most : ℕ) (head : Head) (p : Play) → IsLawful most head p → IsRising p → IsDelivered p
lawful-delivers most head p l r = all-delivered most head p (record { is_run = l.is_run; bounds = l.bounds; within = l.within }) r
