-- In every run: the sequences that each client drew, who asks, and the places of replies.
use Rattle.std.proofs.Common.{◌≡◌, ◌≢◌, ℕ, ◌+◌, Bool, true, false, ◌==◌, List, [], ◌∷◌, Option, Some, None, map, refl, sym, subst, ◌∙◌, length}
use Rattle.std.specs.Prelude.{slice_get, slice_set}
use Rattle.nq_base.specs.declared.Event.{Event}
use Rattle.nq_base.specs.declared.Party.{Party}
use Rattle.nq_base.specs.declared.Reply.{Reply}
use Rattle.nq_base.specs.declared.Request.{Request}
use Rattle.walk_steps.proofs.ClientMoves.{none-some}
use Rattle.walk_steps.proofs.Mail.{packets_with, none-to-host, other-asked}
use Rattle.walk_steps.proofs.Packets.{In, in-get, Asked, Told, told-same, reply-same}
use Rattle.walk_steps.proofs.Places.{Answers, answers-more}
use Rattle.walk_steps.proofs.Rows.{same-number, number-same}
use Rattle.walk_steps.proofs.Sequences.{Seqs, seqs-more, Drew, DrewIf, call-draws, tick-draws, restart-draws, hear-draws, asked-before-server}
use Rattle.walk_steps.proofs.ServerSays.{IsReplyTo, IsSaid, said_reply, said_error, said_notice, AllSaid}
use Rattle.walk_steps.proofs.Worlds.{IsAt, Holds, get-set-same, get-set-other, to-told, received-said, tick-said, crash-said, run-holds, set-there}
use Rattle.nq_model.specs.protocol.Client.{Client, ClientStep}
use Rattle.nq_model.specs.protocol.ClientStep.{client_call, client_tick, restart}
use Rattle.nq_model.specs.protocol.Hear.{hear}
use Rattle.nq_model.specs.protocol.Message.{Message, Packet, call, reply, error, datagram_of}
use Rattle.nq_model.specs.protocol.Server.{ServerStep, to_host}
use Rattle.nq_model.specs.protocol.ServerStep.{receive, tick, crash}
use Rattle.nq_model.specs.protocol.World.{Head, World, from_host, after_server, after_client, at_client, after_hearing, sending_host, deliver_to_client}
use Rattle.nq_model.specs.protocol.World.{deliver_to, deliver, step, start, run}

-- ---- the invariant

pub record Draws (w : World) : Type 0 where
  pub clients : (host : ℕ) (c : Client) → slice_get w.clients host ≡ Some c → Seqs c.who c.seq w.packets
  -- only a host that is there asks
  pub lone : (host xid : ℕ) (r : Request) → Asked w.packets host xid r → slice_get w.clients host ≡ None → ⊥
  pub answers : Answers w.packets

-- ---- a step of a client

client-draws : (w : World) (host : ℕ) (c : Client) (t : ClientStep) → slice_get w.clients host ≡ Some c → Drew host w.packets t → Holds w → Draws w
    → Draws (after_client w host t)
unfolding after_client
client-draws w host c t is new held h = record {
  clients = λ other d there. case other d (other == host) refl there;
  lone = λ other xid r asked none. lone other xid r (other == host) refl asked none;
  answers = answers-more w.packets (map (from_host host) t.sends) (λ other xid a i. absurd (none-to-host host other t.sends (reply xid a) i)) h.answers;
} where
  apart : (other : ℕ) → (other == host) ≡ false → other ≢ host
  apart other differs same = let yes : (other == host) ≡ true = number-same other host same in absurd (cc)

  case : (other : ℕ) (d : Client) (b : Bool) → (other == host) ≡ b → slice_get (slice_set w.clients host t.client) other ≡ Some d
      → Seqs d.who d.seq (packets_with w.packets host t.sends)
  case other d true same there =
      let one : other ≡ host = same-number other host same in
      let is : d ≡ t.client = get-set-same w.clients host t.client d (subst (λ n. slice_get (slice_set w.clients host t.client) n ≡ Some d) one there) in
      subst (λ z. Seqs z.who z.seq (packets_with w.packets host t.sends)) (sym is) new.seqs
  case other d false differs there =
      let before : slice_get w.clients other ≡ Some d = sym (get-set-other w.clients host other t.client (apart other differs)) ∙ there in
      let here : d.who.host ≡ other = (held.clients other d before).here in
      seqs-more (λ x r n sq asked. other-asked w.packets host d.who.host t.sends x r (λ same. apart other differs (sym here ∙ same)) asked)
      (h.clients other d before)

  lone : (other xid : ℕ) (r : Request) (b : Bool) → (other == host) ≡ b → Asked (packets_with w.packets host t.sends) other xid r
      → slice_get (slice_set w.clients host t.client) other ≡ None → ⊥
  lone other xid r true same asked none =
      none-some t.client (sym (subst (λ n. slice_get (slice_set w.clients host t.client) n ≡ None) (same-number other host same) none)
      ∙ set-there w.clients host t.client c is)
  lone other xid r false differs asked none =
      h.lone other xid r
      (other-asked w.packets host other t.sends xid r (apart other differs) asked)
      (sym (get-set-other w.clients host other t.client (apart other differs)) ∙ none)

at-client-draws : (w : World) (host : ℕ) (f : Client → ClientStep) (o : Option Client) → slice_get w.clients host ≡ o
    → ((c : Client) → IsAt host c w.packets → Seqs c.who c.seq w.packets → Drew host w.packets (f c)) → Holds w → Draws w → Draws (at_client w host f o)
at-client-draws w host f None is goes held h = h
at-client-draws w host f (Some c) is goes held h = client-draws w host c (f c) is (goes c (held.clients host c is) (h.clients host c is)) held h

hearing-draws : (w : World) (host : ℕ) (c : Client) (o : Option ClientStep) → slice_get w.clients host ≡ Some c → DrewIf host w.packets o → Holds w
    → Draws w → Draws (after_hearing w host o)
hearing-draws w host c None is new held h = h
hearing-draws w host c (Some t) is new held h = client-draws w host c t is new held h

to-client-draws : (w : World) (k host : ℕ) (m : Message) (o : Option Client) → slice_get w.clients host ≡ o → Told w.packets host m → Holds w → Draws w
    → Draws (deliver_to_client w k host m o)
to-client-draws w k host m None is sent held h = h
to-client-draws w k host m (Some c) is sent held h =
    hearing-draws w host c (hear c k m) is (hear-draws host c w.packets k m sent (held.clients host c is) (h.clients host c is)) held h

-- ---- a step of the server

-- and each reply that it sends is to a request
said-reply : (ps : List Packet) (host xid : ℕ) (a : Reply) → IsSaid ps (to_host host (reply xid a)) → IsReplyTo ps host xid a
said-reply ps host xid a (said_reply other y b e k) =
    let t = told-same host other (reply xid a) (reply y b) e in
    let p = reply-same xid y a b t.1 in
    subst (λ n. IsReplyTo ps n xid a) (sym t.0) (subst (λ n. IsReplyTo ps other n a) (sym p.0) (subst (λ z. IsReplyTo ps other y z) (sym p.1) k))
said-reply ps host xid a (said_error other y er e) = let t = told-same host other (reply xid a) (error y er) e in absurd (cc)
said-reply ps host xid a (said_notice y row e) =
    let t = told-same host row.who.host (reply xid a) (call y (Request.Evicted row.who row.file row.tag)) e in absurd (cc)

server-draws : (w : World) (t : ServerStep) → AllSaid w.packets t.sends → Draws w → Draws (after_server w t)
unfolding after_server
server-draws w t said h = record {
  clients = λ host c is. seqs-more (λ x r n sq asked. asked-before-server w.packets t.sends said c.who.host x r asked) (h.clients host c is);
  lone = λ host xid r asked none. h.lone host xid r (asked-before-server w.packets t.sends said host xid r asked) none;
  answers = answers-more w.packets t.sends (λ host xid a i. said-reply w.packets host xid a (said (to_host host (reply xid a)) i)) h.answers;
}

-- ---- each event

delivered-draws : (w : World) (k : ℕ) (p : Packet) (to : Party) → p.to ≡ to → In w.packets p → Holds w → Draws w → Draws (deliver_to w k p to)
delivered-draws w k p Party.Server to i held h =
    server-draws w (receive w.server (sending_host p.sender) (length w.packets) (datagram_of p.message)) (received-said w p i to held) h
delivered-draws w k p (Party.Client host) to i held h =
    to-client-draws w k host p.message (slice_get w.clients host) refl (to-told w.packets p host (held.sent p i) to i) held h

deliver-draws : (w : World) (k : ℕ) (o : Option Packet) → slice_get w.packets k ≡ o → Holds w → Draws w → Draws (deliver w k o)
deliver-draws w k None is held h = h
deliver-draws w k (Some p) is held h = delivered-draws w k p p.to refl (in-get w.packets k p is) held h

step-draws : (w : World) (e : Event) → Holds w → Draws w → Draws (step w e)
step-draws w (Event.Call host op) held h =
    at-client-draws w host (λ c. client_call c op) (slice_get w.clients host) refl (λ c a q. call-draws host c w.packets op a q) held h
step-draws w (Event.Deliver k) held h = deliver-draws w k (slice_get w.packets k) refl held h
step-draws w Event.ServerTick held h = server-draws w (tick w.server (w.server.now + 1)) (tick-said w.packets w.server (w.server.now + 1)) h
step-draws w (Event.ClientTick host) held h =
    at-client-draws w host (λ c. client_tick c (c.now + 1)) (slice_get w.clients host) refl (λ c a q. tick-draws host c w.packets a q) held h
step-draws w (Event.Restart host) held h = at-client-draws w host restart (slice_get w.clients host) refl (λ c a q. restart-draws host c w.packets a q) held h
step-draws w (Event.Crash longest) held h = server-draws w (crash w.server longest) (crash-said w.packets w.server longest) h

start-draws : (head : Head) → Draws (start head)
unfolding start
start-draws head = record {
  clients = λ host c is. record { once = λ x y r s w n a b. absurd a; drawn = λ x r w n a. absurd a };
  lone = λ host xid r a none. a;
  answers = λ place host xid a at. none-some _ at;
}

-- in every run
pub run-draws : (head : Head) (events : List Event) → Draws (run head events)
run-draws head [] = start-draws head
run-draws head (e ∷ earlier) = step-draws (run head earlier) e (run-holds head earlier) (run-draws head earlier)
