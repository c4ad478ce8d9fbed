-- In every run whose calls bring filled bodies all bodies are filled.
use Rattle.std.proofs.Common.{◌≡◌, ℕ, zero, suc, ◌+◌, List, [], ◌∷◌, Option, Some, None, length, map, refl, subst}
use Rattle.std.specs.Prelude.{slice_get}
use Rattle.nq_base.specs.declared.Event.{Event}
use Rattle.nq_base.specs.declared.Party.{Party}
use Rattle.nq_base.specs.declared.Request.{Request}
use Rattle.law_runs.proofs.EachOf.{each-get, each-set}
use Rattle.law_runs.proofs.FilledParts.{FitsIn, step-filled}
use Rattle.law_runs.proofs.FilledClient.{call-fits, tick-fits, hear-fits, restart-fits}
use Rattle.law_runs.proofs.FilledServer.{FileFilled, PacketFilled, StepFilled, new-filled, received, ticked, crashed}
use Rattle.nq_model.proofs.Lists.{each-append}
use Rattle.nq_model.specs.protocol.Client.{Client, ClientStep}
use Rattle.nq_model.specs.protocol.ClientStep.{client_call, client_tick, restart, fresh_client, attached_client}
use Rattle.nq_model.specs.protocol.Hear.{hear}
use Rattle.nq_model.specs.laws.Journal.{Each}
use Rattle.nq_model.specs.protocol.Message.{Message, call, reply, error, Packet, request, datagram_of, datagram_of_call}
use Rattle.nq_model.specs.protocol.Server.{ServerStep}
use Rattle.nq_model.specs.protocol.ServerStep.{boot}
use Rattle.nq_model.specs.protocol.World.{Head, World, from_host, after_server, after_client, at_client, after_hearing, sending_host, deliver_to_client}
use Rattle.nq_model.specs.protocol.World.{deliver_to, deliver, first_files, first_clients, start, step, run}
use Rattle.nq_model.specs.laws.BodiesAreFilled.{AsksFilled, HasFilledBody, HasFilledBodies, BringsFilledBody, BodiesAreFilled, BodiesAreFilledInEveryRun}
use Rattle.walk_steps.proofs.ClientMoves.{none-some}
use Rattle.walk_steps.proofs.Worlds.{Holds, run-holds}

-- ---- a step of the server

server-filled : (w : World) (t : ServerStep) → StepFilled t → BodiesAreFilled w → BodiesAreFilled (after_server w t)
unfolding after_server
server-filled w t s h = record { kept = s.kept; sent = each-append PacketFilled w.packets t.sends h.sent s.sent; clients = h.clients }

-- ---- a step of a client

sent-filled : (host : ℕ) (sends : List Message) → Each HasFilledBody sends → Each PacketFilled (map (from_host host) sends)
sent-filled host [] h = tt
sent-filled host (m ∷ sends) h = (h.0, sent-filled host sends h.1)

client-filled : (w : World) (host : ℕ) (t : ClientStep) → FitsIn t → BodiesAreFilled w → BodiesAreFilled (after_client w host t)
unfolding after_client
client-filled w host t m h = record {
  kept = h.kept;
  sent = each-append PacketFilled w.packets _ h.sent (sent-filled host t.sends m.sent);
  clients = each-set HasFilledBodies w.clients host t.client (step-filled t m) h.clients;
}

at-client-filled : (w : World) (host : ℕ) (f : Client → ClientStep) (o : Option Client) → slice_get w.clients host ≡ o
    → ((c : Client) → HasFilledBodies c → FitsIn (f c)) → BodiesAreFilled w → BodiesAreFilled (at_client w host f o)
at-client-filled w host f None is goes h = h
at-client-filled w host f (Some c) is goes h = client-filled w host (f c) (goes c (each-get HasFilledBodies w.clients host c is h.clients)) h

-- ---- a delivery

hearing-filled : (w : World) (k host : ℕ) (m : Message) (c : Client) (o : Option ClientStep) → hear c k m ≡ o → slice_get w.clients host ≡ Some c
    → HasFilledBody m → Holds w → BodiesAreFilled w → BodiesAreFilled (after_hearing w host o)
hearing-filled w k host m c None hears is filled held h = h
hearing-filled w k host m c (Some t) hears is filled held h =
    client-filled w host t (hear-fits c k m t (held.clients host c is).alone filled hears (each-get HasFilledBodies w.clients host c is h.clients)) h

to-client-filled : (w : World) (k host : ℕ) (m : Message) (o : Option Client) → slice_get w.clients host ≡ o → HasFilledBody m → Holds w
    → BodiesAreFilled w → BodiesAreFilled (deliver_to_client w k host m o)
to-client-filled w k host m None is filled held h = h
to-client-filled w k host m (Some c) is filled held h = hearing-filled w k host m c (hear c k m) refl is filled held h

request-same : (x y : ℕ) (r s : Request) → request x r ≡ request y s → r ≡ s
request-same x y r s e = cc

-- the request of a datagram is the one of its message
request-filled : (m : Message) → HasFilledBody m → (xid : ℕ) (r : Request) → datagram_of m ≡ request xid r → AsksFilled r
request-filled (call x q) filled xid r e = of-call q filled e
  where
    of-call : (q : Request) → AsksFilled q → datagram_of_call x q ≡ request xid r → AsksFilled r
    of-call (Request.Evicted who file tag) filled e = absurd (cc)
    of-call other filled e = subst AsksFilled (request-same x xid other r e) filled
request-filled (reply x a) filled xid r e = absurd (cc)
request-filled (error x a) filled xid r e = absurd (cc)

to-filled : (w : World) (k : ℕ) (p : Packet) (to : Party) → HasFilledBody p.message → Holds w → BodiesAreFilled w → BodiesAreFilled (deliver_to w k p to)
to-filled w k p Party.Server filled held h =
    server-filled w _ (received w.server h.kept (sending_host p.sender) (length w.packets) (datagram_of p.message) (request-filled p.message filled)) h
to-filled w k p (Party.Client host) filled held h = to-client-filled w k host p.message (slice_get w.clients host) refl filled held h

deliver-filled : (w : World) (k : ℕ) (o : Option Packet) → slice_get w.packets k ≡ o → Holds w → BodiesAreFilled w → BodiesAreFilled (deliver w k o)
deliver-filled w k None is held h = h
deliver-filled w k (Some p) is held h = to-filled w k p p.to (each-get PacketFilled w.packets k p is h.sent) held h

-- ---- an event

step-keeps : (w : World) (e : Event) → BringsFilledBody e → Holds w → BodiesAreFilled w → BodiesAreFilled (step w e)
step-keeps w (Event.Call host op) brings held h =
    at-client-filled w host (λ c. client_call c op) (slice_get w.clients host) refl (λ c filled. call-fits c op brings filled) h
step-keeps w (Event.Deliver k) brings held h = deliver-filled w k (slice_get w.packets k) refl held h
step-keeps w Event.ServerTick brings held h = server-filled w _ (ticked w.server h.kept (w.server.now + 1)) h
step-keeps w (Event.ClientTick host) brings held h =
    at-client-filled w host (λ c. client_tick c (c.now + 1)) (slice_get w.clients host) refl (λ c filled. tick-fits c (c.now + 1) filled) h
step-keeps w (Event.Restart host) brings held h = at-client-filled w host restart (slice_get w.clients host) refl (λ c filled. restart-fits c) h
step-keeps w (Event.Crash longest) brings held h = server-filled w _ (crashed w.server h.kept longest) h

-- ---- the start

first-filled : (id : ℕ) (files : List (List ℕ × ℕ)) → Each FileFilled (first_files id files)
first-filled id [] = tt
first-filled id (f ∷ files) = (new-filled id f.0 f.1, first-filled (id + 1) files)

clients-filled : (term host count : ℕ) → Each HasFilledBodies (first_clients term host count)
unfolding attached_client fresh_client
clients-filled term host zero = tt
clients-filled term host (suc count) = (
  record { called = λ u e. none-some u e; asked = λ t e. none-some t e; dirty = tt; pushed = λ p e. none-some p e; clean = tt },
  clients-filled term
      (host + 1) count,
)

start-filled : (head : Head) → BodiesAreFilled (start head)
unfolding start boot
start-filled head = record { kept = first-filled 1 head.files; sent = tt; clients = clients-filled head.term 0 head.hosts }

pub filled-in-every-run : BodiesAreFilledInEveryRun
filled-in-every-run head [] brings = start-filled head
filled-in-every-run head (e ∷ events) brings = step-keeps (run head events) e brings.0 (run-holds head events) (filled-in-every-run head events brings.1)
