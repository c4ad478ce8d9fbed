-- In a run that a world takes in, no number comes to its end.
use Rattle.std.proofs.Common.{◌≡◌, ◌≤◌, ℕ, zero, suc, ◌==◌, Bool, true, false, List, [], ◌∷◌, Option, Some, ap, sym, ◌∙◌, arith, inl, inr, length}
use Rattle.std.proofs.Common.{if◌then◌else◌}
use Rattle.std.specs.Prelude.{slice_get}
use Rattle.nq_base.specs.declared.Event.{Event}
use Rattle.nq_keeper.specs.Booting.{last_boot}
use Rattle.nq_client.specs.Counted.{Counted}
use Rattle.nq_model.specs.protocol.Kept.{Kept}
use Rattle.nq_model.specs.protocol.Skew.{is_server_tick, is_tick_of, server_ticks, ticks_of}
use Rattle.nq_model.specs.protocol.World.{Head, run}
use Rattle.walk_steps.proofs.WorldClocks.{run-clocked}
use Rattle.walk_steps.proofs.WorldNumbers.{drawn-up-to, numbers-stay-within}
use Rattle.nq_world.proofs.Counting.{took-at}
use Rattle.nq_world.specs.Counting.{ClientIsSpent, IsLastTime, IsSpent, HasNumbersLeft, ServerIsSpent}
use Rattle.nq_world.specs.Moving.{clients_in}
use Rattle.nq_world.specs.Playing.{Plays, WorldOver}
use Rattle.nq_world.specs.Running.{RunsAreUnspent}

-- ---- clocks tick no more often than there are events

server-tick-once : (event : Event) → is_server_tick event ≤ 1
server-tick-once (Event.Call host op) = omega arith
server-tick-once (Event.Deliver k) = omega arith
server-tick-once Event.ServerTick = omega arith
server-tick-once (Event.ClientTick host) = omega arith
server-tick-once (Event.Restart host) = omega arith
server-tick-once (Event.Crash longest) = omega arith

server-ticks-few : (events : List Event) → server_ticks events ≤ length events
server-ticks-few [] = omega arith
server-ticks-few (event ∷ events) = let one = server-tick-once event in let few = server-ticks-few events in omega arith

once : (b : Bool) → (if b then 1 else 0) ≤ 1
once true = omega arith
once false = omega arith

tick-once : (host : ℕ) (event : Event) → is_tick_of host event ≤ 1
tick-once host (Event.Call h op) = omega arith
tick-once host (Event.Deliver k) = omega arith
tick-once host Event.ServerTick = omega arith
tick-once host (Event.ClientTick h) = once (h == host)
tick-once host (Event.Restart h) = omega arith
tick-once host (Event.Crash longest) = omega arith

ticks-few : (host : ℕ) (events : List Event) → ticks_of host events ≤ length events
ticks-few host [] = omega arith
ticks-few host (event ∷ events) = let one = tick-once host event in let few = ticks-few host events in omega arith

-- ---- a run has numbers left

pub runs-are-unspent : RunsAreUnspent
runs-are-unspent head events seen skew r =
    let few = r.few in
    let clocked = run-clocked head events in
    let drawn = drawn-up-to head events in
    record {
      boot = let low = (numbers-stay-within head events r.within r.given r.few).grew.boots in omega arith;
      time = let now = clocked.server in let ticks = server-ticks-few events in omega arith;
      times = λ host c there. let now = clocked.clients host c there in let ticks = ticks-few host events in omega arith;
      incarnations = λ host c there. let low = drawn.inc host c there in omega arith;
    }

-- ---- a world that plays a run is not spent

found-client : (clients : List Counted) (host : ℕ) (c : Counted) → slice_get clients host ≡ Some c → slice_get (clients_in clients) host ≡ Some c.client
found-client [] host c there = absurd (cc)
found-client (x ∷ clients) zero c there = let same : x ≡ c = cc in ap (λ y. Some y.client) same
found-client (x ∷ clients) (suc host) c there = found-client clients host c there

module _ {K : Type 0} (head : Head) (events : List Event) (w : WorldOver K) (told : Option Kept) (plays : Plays head events w told) where
  left : HasNumbersLeft (run head events)
  left = runs-are-unspent head events _ w.skew plays.shown

  pub server-unspent : ServerIsSpent w.server told → ⊥
  server-unspent (inl many) = let few = plays.served in let all = plays.shown.few in absurd (omega arith)
  server-unspent (inr last) = let is : (run head events).server.kept.boot ≡ last_boot = last (run head events).server.kept plays.keeps in let low =
      left.boot in absurd (omega arith)

  pub server-in-time : IsLastTime w.server.beside.time → ⊥
  server-in-time late = let same : w.server.beside.time ≡ (run head events).server.now = ap (λ b. b.time) plays.holds in let early = left.time in
      absurd (omega arith)

  client-at : (host : ℕ) (c : Counted) → slice_get w.clients host ≡ Some c → slice_get (run head events).clients host ≡ Some c.client
  client-at host c there = ap (λ cs. slice_get cs host) (sym plays.shown.shows.clients) ∙ found-client w.clients host c there

  unspent : (host : ℕ) (c : Counted) → slice_get w.clients host ≡ Some c → IsSpent c → ⊥
  unspent host c there (inl many) = let few = took-at (length events) host w.clients c there plays.heard in let all = plays.shown.few in absurd (omega arith)
  unspent host c there (inr (inl late)) = let early = left.times host c.client (client-at host c there) in absurd (omega arith)
  unspent host c there (inr (inr last)) = let low = left.incarnations host c.client (client-at host c there) in absurd (omega arith)

  pub client-unspent : (host : ℕ) → ClientIsSpent host w.clients → ⊥
  client-unspent host x = unspent host x.client x.there x.spent
