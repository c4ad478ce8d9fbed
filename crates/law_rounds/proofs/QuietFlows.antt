-- What a delivery adds to the packets; and that it neither ends a recovery nor begins one.
use Rattle.std.proofs.Common.{◌≡◌, ℕ, [], Option, Some, None, length, refl, sym, ap, ◌∙◌}
use Rattle.std.specs.Prelude.{map, slice_get}
use Rattle.std.proofs.lemmas.List.{append-nil}
use Rattle.nq_base.specs.declared.Party.{Party}
use Rattle.nq_model.specs.protocol.Client.{Client, ClientStep}
use Rattle.nq_model.specs.protocol.Hear.{hear}
use Rattle.nq_model.specs.protocol.Message.{Message, Packet, Datagram, datagram_of}
use Rattle.nq_model.specs.protocol.Server.{Server}
use Rattle.nq_model.specs.protocol.ServerStep.{receive}
use Rattle.nq_model.specs.protocol.World.{World, from_host, after_server, after_client, after_hearing, sending_host, deliver, deliver_to, deliver_to_client}
use Rattle.walk_steps.proofs.Steps.{Changes, nothing, by_client, by_server}
use Rattle.walk_steps.proofs.ServerMoves.{server-moves, phase-moves}
use Rattle.law_rounds.specs.QuietDeliveries.{recovers}
use Rattle.law_rounds.proofs.Plays.{Grows}

-- ---- what is under way was sent, in each play of a calm network

pub grown : (w v : World) → Changes w v → Grows w v
unfolding after_client after_server
grown w v (nothing is) = record { more = []; is = ap (λ (u : World). u.packets) is ∙ sym (append-nil w.packets) }
grown w v (by_client host c t at acts to) = record { more = map (from_host host) t.sends; is = ap (λ (u : World). u.packets) to }
grown w v (by_server t acts to) = record { more = t.sends; is = ap (λ (u : World). u.packets) to }

-- ---- a delivery neither ends a recovery nor begins one

received-phase : (s : Server) (sender next : ℕ) (d : Datagram) → recovers (receive s sender next d).server.phase ≡ recovers s.phase
received-phase s sender next d = server-moves s sender next d (λ kept phase table. recovers phase ≡ recovers s.phase)
    (phase-moves s d (λ longest phase. recovers phase ≡ recovers s.phase) refl (λ until heard last is. sym (ap recovers is)))

hearing-phase : (w : World) (host : ℕ) (o : Option ClientStep) → (after_hearing w host o).server ≡ w.server
unfolding after_client
hearing-phase w host None = refl
hearing-phase w host (Some t) = refl

client-phase : (w : World) (k host : ℕ) (m : Message) (o : Option Client) → (deliver_to_client w k host m o).server ≡ w.server
client-phase w k host m None = refl
client-phase w k host m (Some c) = hearing-phase w host (hear c k m)

party-phase : (w : World) (k : ℕ) (p : Packet) (to : Party) → recovers (deliver_to w k p to).server.phase ≡ recovers w.server.phase
unfolding after_server
party-phase w k p Party.Server = received-phase w.server (sending_host p.sender) (length w.packets) (datagram_of p.message)
party-phase w k p (Party.Client host) = ap (λ (s : Server). recovers s.phase) (client-phase w k host p.message (slice_get w.clients host))

pub delivered-phase : (w : World) (k : ℕ) (o : Option Packet) → recovers (deliver w k o).server.phase ≡ recovers w.server.phase
delivered-phase w k None = refl
delivered-phase w k (Some p) = party-phase w k p p.to
