-- An event sends few packets: each run's server is a server alone.
use Rattle.std.proofs.Common.{◌≡◌, ◌≤◌, ℕ, ◌+◌, List, [], ◌∷◌, Option, Some, None, length, refl, ap, subst, sym, ◌∙◌, arith}
use Rattle.std.specs.Prelude.{map, slice_get}
use Rattle.std.proofs.lemmas.List.{length-append, length-map}
use Rattle.std.specs.Prelude.{◌⊎◌}
use mathlib.Core.Logic.{inl, inr}
use Rattle.nq_base.specs.declared.Event.{Event}
use Rattle.nq_base.specs.declared.Party.{Party}
use Rattle.nq_model.specs.protocol.Client.{Client, ClientStep}
use Rattle.nq_model.specs.protocol.ClientStep.{client_call, client_tick, restart}
use Rattle.nq_model.specs.protocol.Hear.{hear}
use Rattle.nq_model.specs.protocol.Message.{Message, Packet, datagram_of}
use Rattle.nq_model.specs.protocol.Server.{Server, ServerStep}
use Rattle.nq_model.specs.protocol.ServerStep.{receive, tick, crash}
use Rattle.nq_model.specs.protocol.World.{Head, World, from_host, after_server, after_client, at_client, after_hearing, sending_host, deliver_to_client}
use Rattle.nq_model.specs.protocol.World.{deliver_to, deliver, step, first_kept, start, run}
use Rattle.nq_model.specs.laws.EventsSendFew.{EventsSendFew}
use Rattle.nq_model.specs.laws.RowsStandApart.{HasOneRowEach}
use Rattle.nq_model.specs.protocol.ServerAlone.{Coming, datagram, ticks, crashes, step_for, server_after, first_boot}
use Rattle.walk_steps.proofs.ServerAlone.{rows-stand-apart}
use Rattle.walk_steps.proofs.ClientSends.{call-sends, tick-sends, hears-sends, restart-sends}
use Rattle.walk_steps.proofs.NoticeCounts.{HostedBelow}
use Rattle.walk_steps.proofs.ServerSends.{all-hosted, receive-few, tick-none, crash-none}
use Rattle.nq_model.specs.protocol.Profile.{most_hosts}

-- ---- what an event does to the server

Comes : Server → Server → Type 0
Comes s t = (t ≡ s) ⊎ ((c : Coming) × (t ≡ (step_for s c).server))

of-client : (w : World) (host : ℕ) (f : Client → ClientStep) (o : Option Client) → Comes w.server (at_client w host f o).server
unfolding Comes after_client
of-client w host f None = inl refl
of-client w host f (Some c) = inl refl

of-hearing : (w : World) (host : ℕ) (o : Option ClientStep) → Comes w.server (after_hearing w host o).server
unfolding Comes after_client
of-hearing w host None = inl refl
of-hearing w host (Some t) = inl refl

of-delivery : (w : World) (k host : ℕ) (m : Message) (o : Option Client) → Comes w.server (deliver_to_client w k host m o).server
unfolding Comes
of-delivery w k host m None = inl refl
of-delivery w k host m (Some c) = of-hearing w host (hear c k m)

of-packet : (w : World) (k : ℕ) (p : Packet) (to : Party) → Comes w.server (deliver_to w k p to).server
unfolding Comes after_server
of-packet w k p Party.Server = inr (datagram (sending_host p.sender) (length w.packets) (datagram_of p.message), refl)
of-packet w k p (Party.Client host) = of-delivery w k host p.message (slice_get w.clients host)

of-deliver : (w : World) (k : ℕ) (o : Option Packet) → Comes w.server (deliver w k o).server
unfolding Comes
of-deliver w k None = inl refl
of-deliver w k (Some p) = of-packet w k p p.to

of-event : (w : World) (event : Event) → Comes w.server (step w event).server
unfolding Comes after_server
of-event w (Event.Call host op) = of-client w host (λ c. client_call c op) (slice_get w.clients host)
of-event w (Event.Deliver k) = of-deliver w k (slice_get w.packets k)
of-event w Event.ServerTick = inr (ticks 1, refl)
of-event w (Event.ClientTick host) = of-client w host (λ c. client_tick c (c.now + 1)) (slice_get w.clients host)
of-event w (Event.Restart host) = of-client w host restart (slice_get w.clients host)
of-event w (Event.Crash longest) = inr (crashes longest, refl)

-- the server of a run is a server alone
record IsAlone (head : Head) (s : Server) : Type 0 where
  came : List Coming
  is : s ≡ server_after (first_boot (first_kept head) head.longest 0) came

alone-next : (head : Head) (s t : Server) → IsAlone head s → Comes s t → IsAlone head t
unfolding Comes
alone-next head s t a (inl same) = record { came = a.came; is = same ∙ a.is }
alone-next head s t a (inr (c, is)) = record { came = c ∷ a.came; is = is ∙ ap (λ u. (step_for u c).server) a.is }

alone : (head : Head) (events : List Event) → IsAlone head (run head events).server
unfolding start
alone head [] = record { came = []; is = refl }
alone head (event ∷ earlier) =
    alone-next head (run head earlier).server (run head (event ∷ earlier)).server (alone head earlier) (of-event (run head earlier) event)

-- ---- what an event sends

Few : World → World → Type 0
Few w v = length v.packets ≤ length w.packets + most_hosts

few-same : (w : World) → Few w w
unfolding Few
few-same w = omega arith

few-server : (w : World) (t : ServerStep) → length t.sends ≤ most_hosts → Few w (after_server w t)
unfolding Few after_server
few-server w t few = let both = length-append w.packets t.sends in omega arith

few-client : (w : World) (host : ℕ) (t : ClientStep) → length t.sends ≤ 2 → Few w (after_client w host t)
unfolding Few after_client
few-client w host t few =
    let both = length-append w.packets (map (from_host host) t.sends) in
    let all = length-map t.sends (from_host host) in
    omega arith

few-at : (w : World) (host : ℕ) (f : Client → ClientStep) (o : Option Client) → ((c : Client) → length (f c).sends ≤ 2) → Few w (at_client w host f o)
few-at w host f None each = few-same w
few-at w host f (Some c) each = few-client w host (f c) (each c)

few-hearing : (w : World) (host k : ℕ) (c : Client) (m : Message) (o : Option ClientStep) → hear c k m ≡ o → Few w (after_hearing w host o)
few-hearing w host k c m None is = few-same w
few-hearing w host k c m (Some t) is = few-client w host t (hears-sends c k m t is)

few-delivery : (w : World) (k host : ℕ) (m : Message) (o : Option Client) → Few w (deliver_to_client w k host m o)
few-delivery w k host m None = few-same w
few-delivery w k host m (Some c) = few-hearing w host k c m (hear c k m) refl

module _ (w : World) (each : HasOneRowEach w.server.table.rows) (hosted : HostedBelow most_hosts w.server.table.rows) where
  few-packet : (k : ℕ) (p : Packet) (to : Party) → Few w (deliver_to w k p to)
  few-packet k p Party.Server =
      few-server
      w
      (receive w.server (sending_host p.sender) (length w.packets) (datagram_of p.message))
      (receive-few w.server each hosted (sending_host p.sender) (length w.packets) (datagram_of p.message))
  few-packet k p (Party.Client host) = few-delivery w k host p.message (slice_get w.clients host)

  few-deliver : (k : ℕ) (o : Option Packet) → Few w (deliver w k o)
  few-deliver k None = few-same w
  few-deliver k (Some p) = few-packet k p p.to

  few-event : (event : Event) → Few w (step w event)
  few-event (Event.Call host op) = few-at w host (λ c. client_call c op) (slice_get w.clients host) (λ c. call-sends c op)
  few-event (Event.Deliver k) = few-deliver k (slice_get w.packets k)
  few-event Event.ServerTick =
      let t = tick w.server (w.server.now + 1) in
      let none : length t.sends ≡ 0 = ap length (tick-none w.server (w.server.now + 1)) in
      few-server w t (omega arith)
  few-event (Event.ClientTick host) = few-at w host (λ c. client_tick c (c.now + 1)) (slice_get w.clients host) (λ c. tick-sends c (c.now + 1))
  few-event (Event.Restart host) = few-at w host restart (slice_get w.clients host) (λ c. restart-sends c)
  few-event (Event.Crash longest) =
      let t = crash w.server longest in
      let none : length t.sends ≡ 0 = ap length (crash-none w.server longest) in
      few-server w t (omega arith)

pub events-send-few : EventsSendFew
unfolding Few
events-send-few head events event =
    let a = alone head events in
    let s = server_after (first_boot (first_kept head) head.longest 0) a.came in
    few-event
    (run head events)
    (subst (λ (u : Server). HasOneRowEach u.table.rows) (sym a.is) (rows-stand-apart (first_kept head) head.longest 0 a.came).one_each)
    (subst (λ (u : Server). HostedBelow most_hosts u.table.rows) (sym a.is) (all-hosted (first_kept head) head.longest 0 a.came))
    event
