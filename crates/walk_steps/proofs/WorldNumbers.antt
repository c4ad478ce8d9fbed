-- In every run of few events the numbers stay within their bounds.
use Rattle.std.proofs.Common.{◌≡◌, ◌≢◌, ◌≤◌, ◌<◌, ◌⊎◌, ℕ, ◌+◌, ◌==◌, Bool, true, false, List, [], ◌∷◌, ◌++◌, Option, Some, None, length, map, refl}
use Rattle.std.proofs.Common.{sym, subst, ap, ◌∙◌, arith, inl, inr, length-append}
use Rattle.std.proofs.lemmas.List.{length-map}
use Rattle.std.specs.Prelude.{slice_get, slice_set}
use Rattle.nq_base.specs.declared.Event.{Event}
use Rattle.nq_base.specs.declared.Party.{Party}
use Rattle.nq_base.specs.declared.Request.{Request}
use Rattle.nq_base.specs.declared.Who.{Who}
use Rattle.nq_model.specs.protocol.Client.{Client, ClientStep}
use Rattle.nq_model.specs.protocol.ClientStep.{client_call, client_tick, restart, attached_client, fresh_client}
use Rattle.nq_model.specs.laws.ChangesOnce.{HasItsText}
use Rattle.nq_model.specs.protocol.Decided.{HasText}
use Rattle.nq_model.specs.protocol.Hear.{hear}
use Rattle.nq_model.specs.protocol.Message.{Message, Datagram, request, Packet, call, asker, datagram_of, sequence_of}
use Rattle.nq_model.specs.protocol.Server.{ServerStep}
use Rattle.nq_model.specs.protocol.Stepped.{most_events}
use Rattle.nq_model.specs.protocol.World.{Head, World, from_host, after_server, after_client, at_client, after_hearing, sending_host, deliver_to_client}
use Rattle.nq_model.specs.protocol.World.{deliver_to, deliver, step, start, run}
use Rattle.walk_steps.proofs.Mail.{sent-calls}
use Rattle.walk_steps.proofs.Packets.{In, in-append, in-get, Asked}
use Rattle.walk_steps.proofs.Sequences.{asked-before-server}
use Rattle.walk_steps.proofs.ServerSays.{AllSaid}
use Rattle.walk_steps.proofs.Worlds.{Holds, get-set-same, get-set-other, to-told, received-said, tick-said, crash-said, first-client, run-holds}
use Rattle.walk_steps.proofs.Rows.{same-number, number-same}
use Rattle.walk_steps.proofs.ServerCases.{request-sent}
use Rattle.walk_steps.specs.Within.{CarriesText, IsGiven, IsServerAfter, NumbersStayWithin}
use Rattle.walk_steps.proofs.ClientNumbers.{HasDrawn, DrewUpTo, DrewIf, call-draws, tick-draws, restart-draws, hear-draws}
use Rattle.walk_steps.proofs.FirstNumbers.{first-within}
use Rattle.walk_steps.proofs.KeptNumbers.{grew-on}
use Rattle.walk_steps.proofs.KeptSteps.{receive-after, tick-after, crash-after}

-- the clients and the packets after so many events
pub record DrawnUpTo (events : ℕ) (w : World) : Type 0 where
  pub inc : (host : ℕ) (c : Client) → slice_get w.clients host ≡ Some c → c.who.inc ≤ events + 1
  pub seq : (host : ℕ) (c : Client) → slice_get w.clients host ≡ Some c → c.seq ≤ length w.packets + 1
  pub sent : (host xid : ℕ) (r : Request) (q : ℕ) → Asked w.packets host xid r → sequence_of r ≡ Some q → q ≤ length w.packets
  pub asked : (host xid : ℕ) (r : Request) (v : Who) → Asked w.packets host xid r → asker r ≡ Some v → v.inc ≤ events + 1
  pub first : (host : ℕ) (c : Client) → slice_get w.clients host ≡ Some c → 1 ≤ c.seq
  pub sent_first : (host xid : ℕ) (r : Request) (q : ℕ) → Asked w.packets host xid r → sequence_of r ≡ Some q → 1 ≤ q

-- so is what a client has drawn
has-drawn : (n : ℕ) (w : World) → Holds w → DrawnUpTo n w → (host : ℕ) (c : Client) → slice_get w.clients host ≡ Some c → HasDrawn (length w.packets) c
has-drawn n w h d host c is = record {
  few = d.seq host c is;
  first = d.first host c is;
  ticket = λ t q e sq. d.sent_first c.who.host t.xid t.request q ((h.clients host c is).mail.own t e).sent sq;
}

-- ---- a step of the server

of-server : (n : ℕ) (w : World) (t : ServerStep) → AllSaid w.packets t.sends → DrawnUpTo n w → DrawnUpTo (n + 1) (after_server w t)
unfolding after_server
of-server n w t said d = record {
  inc = λ host c e. let i = d.inc host c e in omega arith;
  seq = λ host c e. let s = d.seq host c e in omega (arith, length-append w.packets t.sends);
  sent =
      λ host xid r q asked sq. let low = d.sent host xid r q (asked-before-server w.packets t.sends said host xid r asked) sq in
      omega (arith, length-append w.packets t.sends);
  asked = λ host xid r v sent by. let low = d.asked host xid r v (asked-before-server w.packets t.sends said host xid r sent) by in omega arith;
  first = d.first;
  sent_first = λ host xid r q asked sq. d.sent_first host xid r q (asked-before-server w.packets t.sends said host xid r asked) sq;
}

-- ---- a step of a client

packets-more : (ps : List Packet) (host : ℕ) (sends : List Message) → length (ps ++ map (from_host host) sends) ≡ length ps + length sends
packets-more ps host sends = length-append ps (map (from_host host) sends) ∙ ap (λ k. length ps + k) (length-map sends (from_host host))

module _ (n : ℕ) (w : World) (host : ℕ) (t : ClientStep) (drew : DrewUpTo (length w.packets) (n + 2) t) (d : DrawnUpTo n w) where
  -- a client after the step is the one that stepped, or was there before
  client-of : (P : Client → Type 0) → P t.client → ((c : Client) (other : ℕ) → slice_get w.clients other ≡ Some c → P c) → (other : ℕ) (c : Client)
      → slice_get (slice_set w.clients host t.client) other ≡ Some c → P c
  client-of P own old other c e = by (other == host) refl
    where
      by : (b : Bool) → (other == host) ≡ b → P c
      by true same =
          let one : other ≡ host = same-number other host same in
          let is : c ≡ t.client = get-set-same w.clients host t.client c (subst (λ k. slice_get (slice_set w.clients host t.client) k ≡ Some c) one e) in
          subst P (sym is) own
      by false differs =
          let apart : other ≢ host = λ same. let is : (other == host) ≡ true = number-same other host same in absurd (cc) in
          old c other (sym (get-set-other w.clients host other t.client apart) ∙ e)

  of-client : DrawnUpTo (n + 1) (after_client w host t)
  unfolding after_client
  of-client = record {
    inc = client-of (λ c. c.who.inc ≤ n + 1 + 1) (let i = drew.inc in omega arith) (λ c other e. let i = d.inc other c e in omega arith);
    seq =
        client-of (λ c. c.seq ≤ length (w.packets ++ map (from_host host) t.sends) + 1)
        (let s = drew.seq in omega (arith, packets-more w.packets host t.sends))
        (λ c other e. let s = d.seq other c e in omega (arith, packets-more w.packets host t.sends));
    sent = λ other xid r q asked sq. by other xid r q sq (in-append w.packets (map (from_host host) t.sends) (from_host other (call xid r)) asked);
    asked = λ other xid r v sent of. own other xid r v of (in-append w.packets (map (from_host host) t.sends) (from_host other (call xid r)) sent);
    first = client-of (λ c. 1 ≤ c.seq) drew.first (λ c other e. d.first other c e);
    sent_first = λ other xid r q asked sq. low other xid r q sq (in-append w.packets (map (from_host host) t.sends) (from_host other (call xid r)) asked);
  } where
    low :
        (other xid : ℕ) (r : Request) (q : ℕ) → sequence_of r ≡ Some q
        → In w.packets (from_host other (call xid r)) ⊎ In (map (from_host host) t.sends) (from_host other (call xid r)) → 1 ≤ q
    low other xid r q sq (inl there) = d.sent_first other xid r q there sq
    low other xid r q sq (inr new) = drew.sent_first xid r q (sent-calls host other t.sends xid r new) sq

    own : (other xid : ℕ) (r : Request) (v : Who) → asker r ≡ Some v
        → In w.packets (from_host other (call xid r)) ⊎ In (map (from_host host) t.sends) (from_host other (call xid r)) → v.inc ≤ n + 1 + 1
    own other xid r v of (inl there) = let low = d.asked other xid r v there of in omega arith
    own other xid r v of (inr new) = let low = drew.own xid r v (sent-calls host other t.sends xid r new) of in omega arith

    by : (other xid : ℕ) (r : Request) (q : ℕ) → sequence_of r ≡ Some q
        → In w.packets (from_host other (call xid r)) ⊎ In (map (from_host host) t.sends) (from_host other (call xid r))
        → q ≤ length (w.packets ++ map (from_host host) t.sends)
    by other xid r q sq (inl there) = let low = d.sent other xid r q there sq in omega (arith, packets-more w.packets host t.sends)
    by other xid r q sq (inr new) =
        let low = drew.sent xid r q (sent-calls host other t.sends xid r new) sq in omega (arith, packets-more w.packets host t.sends)

later-drawn : (n : ℕ) (w : World) → DrawnUpTo n w → DrawnUpTo (n + 1) w
later-drawn n w d =
    record {
      inc = λ host c e. let i = d.inc host c e in
          omega arith;
      seq = d.seq;
      sent = d.sent;
      asked = λ host xid r v i of. let low = d.asked host xid r v i of in
          omega arith;
      first = d.first;
      sent_first = d.sent_first;
    }

more-inc : (packets n most : ℕ) (t : ClientStep) → n ≤ most → DrewUpTo packets n t → DrewUpTo packets most t
more-inc packets n most t more k =
    record {
      inc = let i = k.inc in omega arith;
      seq = k.seq;
      sent = k.sent;
      own = λ xid r v i of. let low = k.own xid r v i of in
          omega arith;
      first = k.first;
      sent_first = k.sent_first;
    }

of-at : (n : ℕ) (w : World) (host : ℕ) (f : Client → ClientStep) (o : Option Client) → slice_get w.clients host ≡ o
    → ((c : Client) → slice_get w.clients host ≡ Some c → DrewUpTo (length w.packets) (n + 2) (f c)) → DrawnUpTo n w
    → DrawnUpTo (n + 1) (at_client w host f o)
of-at n w host f None is goes d = later-drawn n w d
of-at n w host f (Some c) is goes d = of-client n w host (f c) (goes c is) d

of-hearing : (n : ℕ) (w : World) (host : ℕ) (o : Option ClientStep) → DrewIf (length w.packets) (n + 2) o → DrawnUpTo n w
    → DrawnUpTo (n + 1) (after_hearing w host o)
of-hearing n w host None drew d = later-drawn n w d
of-hearing n w host (Some t) drew d = of-client n w host t drew d

more-if : (packets n most : ℕ) (o : Option ClientStep) → n ≤ most → DrewIf packets n o → DrewIf packets most o
more-if packets n most None more k = tt
more-if packets n most (Some t) more k = more-inc packets n most t more k

of-message : (n : ℕ) (w : World) (k host : ℕ) (m : Message) (o : Option Client) → slice_get w.clients host ≡ o → Holds w
    → In w.packets (record { sender = Party.Server; to = Party.Client host; message = m }) → DrawnUpTo n w
    → DrawnUpTo (n + 1) (deliver_to_client w k host m o)
of-message n w k host m None is h told d = later-drawn n w d
of-message n w k host m (Some c) is h told d =
    let i = d.inc host c is in
    of-hearing n w host (hear c k m)
    (more-if (length w.packets) c.who.inc (n + 2) (hear c k m) (omega arith)
    (hear-draws (length w.packets) host c w.packets k m told (h.clients host c is) (has-drawn n w h d host c is)))
    d

of-packet : (n : ℕ) (w : World) (k : ℕ) (p : Packet) (to : Party) → Holds w → p.to ≡ to → In w.packets p → DrawnUpTo n w
    → DrawnUpTo (n + 1) (deliver_to w k p to)
of-packet n w k p Party.Server h to i d = of-server n w _ (received-said w p i to h) d
of-packet n w k p (Party.Client host) h to i d =
    of-message n w k host p.message (slice_get w.clients host) refl h (to-told w.packets p host (h.sent p i) to i) d

of-deliver : (n : ℕ) (w : World) (k : ℕ) (o : Option Packet) → slice_get w.packets k ≡ o → Holds w → DrawnUpTo n w → DrawnUpTo (n + 1) (deliver w k o)
of-deliver n w k None is h d = later-drawn n w d
of-deliver n w k (Some p) is h d = of-packet n w k p p.to h refl (in-get w.packets k p is) d

drawn-on : (n : ℕ) (w : World) (event : Event) → Holds w → DrawnUpTo n w → DrawnUpTo (n + 1) (step w event)
drawn-on n w (Event.Call host op) h d =
    of-at n w host (λ c. client_call c op) (slice_get w.clients host) refl
    (λ c is. let i = d.inc host c is in
    more-inc (length w.packets) c.who.inc (n + 2) _ (omega arith)
    (call-draws (length w.packets) host c w.packets op (h.clients host c is) (has-drawn n w h d host c is))) d
drawn-on n w (Event.Deliver k) h d = of-deliver n w k (slice_get w.packets k) refl h d
drawn-on n w Event.ServerTick h d = of-server n w _ (tick-said w.packets w.server (w.server.now + 1)) d
drawn-on n w (Event.ClientTick host) h d =
    of-at n w host (λ c. client_tick c (c.now + 1)) (slice_get w.clients host) refl
    (λ c is. let i = d.inc host c is in
    more-inc (length w.packets) c.who.inc (n + 2) _ (omega arith)
    (tick-draws (length w.packets) host c w.packets (h.clients host c is) (has-drawn n w h d host c is))) d
drawn-on n w (Event.Restart host) h d =
    of-at n w host restart (slice_get w.clients host) refl
    (λ c is. let i = d.inc host c is in more-inc (length w.packets) (c.who.inc + 1) (n + 2) _ (omega arith) (restart-draws (length w.packets) c)) d
drawn-on n w (Event.Crash longest) h d = of-server n w _ (crash-said w.packets w.server longest) d

drawn-first : (head : Head) → DrawnUpTo 0 (start head)
unfolding start attached_client fresh_client
drawn-first head = record {
  inc = λ host c e. let is : c.who.inc ≡ 1 = ap (λ k. k.who.inc) (first-client head.term 0 head.hosts host c e) in omega arith;
  seq = λ host c e. let is : c.seq ≡ 1 = ap (λ k. k.seq) (first-client head.term 0 head.hosts host c e) in omega arith;
  sent = λ host xid r q asked sq. absurd asked;
  asked = λ host xid r v sent of. absurd sent;
  first = λ host c e. let is : c.seq ≡ 1 = ap (λ k. k.seq) (first-client head.term 0 head.hosts host c e) in omega arith;
  sent_first = λ host xid r q asked sq. absurd asked;
}

-- ---- the server

-- an event that leaves the server
later-server : (n : ℕ) (w v : World) → v.server ≡ w.server → IsServerAfter n w.server → IsServerAfter (n + 1) v.server
later-server n w v same a =
    subst (λ s. IsServerAfter (n + 1) s) (sym same) (record { within = a.within; grew = grew-on n w.server.kept a.grew; long = a.long; short = a.short })

client-server : (w : World) (host : ℕ) (t : ClientStep) → (after_client w host t).server ≡ w.server
unfolding after_client
client-server w host t = refl

at-server : (w : World) (host : ℕ) (f : Client → ClientStep) (o : Option Client) → (at_client w host f o).server ≡ w.server
at-server w host f None = refl
at-server w host f (Some c) = client-server w host (f c)

heard-server : (w : World) (host : ℕ) (o : Option ClientStep) → (after_hearing w host o).server ≡ w.server
heard-server w host None = refl
heard-server w host (Some t) = client-server w host t

hearing-server : (w : World) (k host : ℕ) (m : Message) (o : Option Client) → (deliver_to_client w k host m o).server ≡ w.server
hearing-server w k host m None = refl
hearing-server w k host m (Some c) = heard-server w host (hear c k m)

-- a datagram has its text where each request that it is has it
has-its-text : (d : Datagram) → ((xid : ℕ) (r : Request) → d ≡ request xid r → HasText r) → HasItsText d
has-its-text (request xid r) each = each xid r refl
has-its-text other each = tt

packet-text : (p : Packet) → CarriesText p.message → HasItsText (datagram_of p.message)
packet-text p text = has-its-text (datagram_of p.message) (λ xid r is. subst CarriesText (request-sent p.message xid r is) text)

-- the server hears a packet
module _ (n : ℕ) (w : World) (few : n < most_events) where
  server-hears-packet :
      (k : ℕ) (p : Packet) (to : Party) → CarriesText p.message → IsServerAfter n w.server → IsServerAfter (n + 1) (deliver_to w k p to).server
  unfolding after_server
  server-hears-packet k p Party.Server text a =
      receive-after n w.server (sending_host p.sender) (length w.packets) (datagram_of p.message) (packet-text p text) a
  server-hears-packet k p (Party.Client host) text a =
      later-server n w (deliver_to_client w k host p.message (slice_get w.clients host)) (hearing-server w k host p.message (slice_get w.clients host)) a

  server-hears-any :
      (k : ℕ) (o : Option Packet) → ((p : Packet) → o ≡ Some p → CarriesText p.message) → IsServerAfter n w.server
      → IsServerAfter (n + 1) (deliver w k o).server
  server-hears-any k None text a = later-server n w w refl a
  server-hears-any k (Some p) text a = server-hears-packet k p p.to (text p refl) a

  server-on : (event : Event) → IsGiven w event → IsServerAfter n w.server → IsServerAfter (n + 1) (step w event).server
  unfolding after_server
  server-on (Event.Call host op) given a =
      later-server n w (at_client w host (λ c. client_call c op) (slice_get w.clients host))
      (at-server w host (λ c. client_call c op) (slice_get w.clients host)) a
  server-on (Event.Deliver k) given a = server-hears-any k (slice_get w.packets k) given a
  server-on Event.ServerTick given a = tick-after n w.server (w.server.now + 1) a
  server-on (Event.ClientTick host) given a =
      later-server n w (at_client w host (λ c. client_tick c (c.now + 1)) (slice_get w.clients host))
      (at-server w host (λ c. client_tick c (c.now + 1)) (slice_get w.clients host)) a
  server-on (Event.Restart host) given a =
      later-server n w (at_client w host restart (slice_get w.clients host)) (at-server w host restart (slice_get w.clients host)) a
  server-on (Event.Crash longest) given a = crash-after n w.server longest few given.0 given.1 a

-- ---- runs

pub drawn-up-to : (head : Head) (events : List Event) → DrawnUpTo (length events) (run head events)
drawn-up-to head [] = drawn-first head
drawn-up-to head (event ∷ earlier) =
    subst (λ n. DrawnUpTo n (step (run head earlier) event)) (omega arith)
    (drawn-on (length earlier) (run head earlier) event (run-holds head earlier) (drawn-up-to head earlier))

pub numbers-stay-within : NumbersStayWithin
numbers-stay-within head [] first given few = first-within head first
numbers-stay-within head (event ∷ earlier) first given few =
    subst (λ n. IsServerAfter n (step (run head earlier) event).server) (omega arith)
    (server-on (length earlier) (run head earlier) (omega arith) event given.1 (numbers-stay-within head earlier first given.2 (omega arith)))
