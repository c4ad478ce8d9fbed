-- A world's packets grow with each event.
use Rattle.std.proofs.Common.{◌≡◌, ◌≤◌, ℕ, ◌+◌, List, ◌++◌, map, length, Option, Some, None, arith, length-append}
use Rattle.std.specs.Prelude.{slice_get}
use Rattle.nq_base.specs.declared.Event.{Event}
use Rattle.nq_base.specs.declared.Party.{Party}
use Rattle.nq_model.specs.protocol.Client.{Client, ClientStep}
use Rattle.nq_model.specs.protocol.ClientStep.{client_call, client_tick, restart}
use Rattle.nq_model.specs.protocol.Hear.{hear}
use Rattle.nq_model.specs.protocol.Message.{Message, Packet, datagram_of}
use Rattle.nq_model.specs.protocol.Server.{ServerStep}
use Rattle.nq_model.specs.protocol.ServerStep.{receive, tick, crash}
use Rattle.nq_model.specs.protocol.World.{World, after_client, after_hearing, after_server, at_client, deliver, deliver_to, deliver_to_client, from_host}
use Rattle.nq_model.specs.protocol.World.{sending_host, step}

abbrev Grows : World → World → Type 0
Grows w v = length w.packets ≤ length v.packets

longer : {X : Type 0} (xs ys : List X) → length xs ≤ length (xs ++ ys)
longer xs ys = let both : length (xs ++ ys) ≡ length xs + length ys = length-append xs ys in omega arith

same : (w : World) → Grows w w
same w = omega arith

by-server : (w : World) (t : ServerStep) → Grows w (after_server w t)
unfolding after_server
by-server w t = longer w.packets t.sends

by-client : (w : World) (host : ℕ) (t : ClientStep) → Grows w (after_client w host t)
unfolding after_client
by-client w host t = longer w.packets (map (from_host host) t.sends)

at-host : (w : World) (host : ℕ) (f : Client → ClientStep) (c : Option Client) → Grows w (at_client w host f c)
at-host w host f None = same w
at-host w host f (Some c) = by-client w host (f c)

by-hearing : (w : World) (host : ℕ) (t : Option ClientStep) → Grows w (after_hearing w host t)
by-hearing w host None = same w
by-hearing w host (Some t) = by-client w host t

to-client : (w : World) (k host : ℕ) (m : Message) (c : Option Client) → Grows w (deliver_to_client w k host m c)
to-client w k host m None = same w
to-client w k host m (Some c) = by-hearing w host (hear c k m)

to-party : (w : World) (k : ℕ) (p : Packet) (to : Party) → Grows w (deliver_to w k p to)
to-party w k p Party.Server = by-server w (receive w.server (sending_host p.sender) (length w.packets) (datagram_of p.message))
to-party w k p (Party.Client host) = to-client w k host p.message (slice_get w.clients host)

delivers : (w : World) (k : ℕ) (p : Option Packet) → Grows w (deliver w k p)
delivers w k None = same w
delivers w k (Some p) = to-party w k p p.to

pub grows : (w : World) (event : Event) → length w.packets ≤ length (step w event).packets
grows w (Event.Call host op) = at-host w host (λ c. client_call c op) (slice_get w.clients host)
grows w (Event.Deliver k) = delivers w k (slice_get w.packets k)
grows w Event.ServerTick = by-server w (tick w.server (w.server.now + 1))
grows w (Event.ClientTick host) = at-host w host (λ c. client_tick c (c.now + 1)) (slice_get w.clients host)
grows w (Event.Restart host) = at-host w host restart (slice_get w.clients host)
grows w (Event.Crash longest) = by-server w (crash w.server longest)
