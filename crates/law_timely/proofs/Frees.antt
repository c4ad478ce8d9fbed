-- While the server serves nothing puts off the request of a call that needs no lease: no reply that is under way, and no verdict that is kept.
use Rattle.std.proofs.Common.{◌≡◌, ◌≤◌, ◌<◌, ◌⊎◌, ℕ, ◌+◌, ◌++◌, true, false, List, [], ◌∷◌, Option, Some, None, length, refl, sym, subst, ap}
use Rattle.std.proofs.Common.{◌∙◌, arith, inl, inr, append-nil}
use Rattle.std.specs.Prelude.{map, slice_get}
use Rattle.std.proofs.lemmas.Bool.{and_from}
use Rattle.nq_base.specs.declared.Call.{Call}
use Rattle.nq_base.specs.declared.Event.{Event}
use Rattle.nq_base.specs.declared.HostRow.{HostRow}
use Rattle.nq_base.specs.declared.Party.{Party}
use Rattle.nq_base.specs.declared.Refusal.{Refusal}
use Rattle.nq_base.specs.declared.Reply.{Reply}
use Rattle.nq_base.specs.declared.Request.{Request}
use Rattle.nq_base.specs.declared.Verdict.{Verdict}
use Rattle.nq_base.specs.declared.Who.{Who}
use Rattle.nq_model.specs.protocol.Client.{Client, ClientStep, Ticket}
use Rattle.nq_model.specs.protocol.ClientStep.{client_call}
use Rattle.nq_model.specs.protocol.Hear.{is_put_off}
use Rattle.nq_model.specs.protocol.Kept.{host_row}
use Rattle.nq_model.specs.protocol.Lines.{Play, play}
use Rattle.nq_model.specs.protocol.Message.{Message, Packet, call, reply, request, datagram_of, asker, sequence_of}
use Rattle.nq_model.specs.laws.OneRequestPerSequence.{IsUnderWay}
use Rattle.nq_model.specs.protocol.Profile.{most_hosts}
use Rattle.nq_model.specs.protocol.Server.{Server, to_host}
use Rattle.nq_model.specs.protocol.ServerStep.{receive}
use Rattle.nq_model.specs.protocol.World.{Head, World, from_host, after_client, after_server, at_client, sending_host, step, run}
use Rattle.walk_steps.proofs.ClientMoves.{some-same}
use Rattle.walk_steps.proofs.Incarnations.{who-same}
use Rattle.walk_steps.proofs.LeaseIntervals.{run-runs}
use Rattle.walk_steps.proofs.OneRequests.{one-open-in-every-run}
use Rattle.walk_steps.proofs.Packets.{In, in-get, Asked}
use Rattle.walk_steps.proofs.Rows.{number-same}
use Rattle.walk_steps.proofs.Worlds.{IsAt, Holds, IsSent, by_host, by_server, run-holds, to-server}
use Rattle.law_rounds.specs.CalmRoundsAreLawful.{IsLawful}
use Rattle.law_rounds.specs.QuietDeliveries.{recovers}
use Rattle.law_rounds.proofs.Coming.{Delivery, no_packet, at_server, at_host, ignored, no_client, delivery}
use Rattle.law_rounds.proofs.LineSteps.{LineGoes, line_same, line_attached, line_decided, line-goes}
use Rattle.law_rounds.proofs.Lines.{Lined, run-lined}
use Rattle.law_rounds.proofs.PacketsCome.{Comes}
use Rattle.law_rounds.proofs.Requests.{message-of}
use Rattle.law_rounds.proofs.ComesFrom.{comes-from}
use Rattle.law_timely.proofs.Links.{all-linked}
use Rattle.law_timely.proofs.Looks.{is_look}
use Rattle.law_timely.proofs.Serves.{PutsNoneOff, puts-none-off}

-- nothing puts off the request of this ticket, which this incarnation of the host sent
pub record IsFree (host : ℕ) (who : Who) (p : Play) (t : Ticket) : Type 0 where
  pub told : (st : Refusal) → Comes p (to_host host (reply t.xid (Reply.Refused who.inc st))) → is_put_off st ≡ true → ⊥
  pub kept : (n : ℕ) → sequence_of t.request ≡ Some n → (host_row p.world.server.kept host).seq ≡ n
      → (host_row p.world.server.kept host).verdict ≡ Verdict.TryLater → ⊥

-- ---- what a client sends

pub own-packets : (h : ℕ) (ms : List Message) (host : ℕ) (m : Message) → In (map (from_host h) ms) (to_host host m) → ⊥
own-packets h [] host m i = i
own-packets h (n ∷ ms) host m (inl e) = let two : Party.Server ≡ Party.Client host = ap (λ (y : Packet). y.to) e in cc
own-packets h (n ∷ ms) host m (inr i) = own-packets h ms host m i

module _ (host : ℕ) (who : Who) (p : Play) (e : Event) where
  -- an event that sends the host nothing, and leaves the server as it is
  free-quiet : (t : Ticket) (more : List Packet) → (step p.world e).packets ≡ p.world.packets ++ more → ((m : Message) → In more (to_host host m) → ⊥)
      → (step p.world e).server ≡ p.world.server → IsFree host who p t → IsFree host who (play p e) t
  free-quiet t more is none same f = record {
    told = λ st x off. by st off (comes-from p e more is (to_host host (reply t.xid (Reply.Refused who.inc st))) x);
    kept = λ n sq at later. f.kept n sq (ap (λ (s : Server). (host_row s.kept host).seq) (sym same) ∙ at)
        (ap (λ (s : Server). (host_row s.kept host).verdict) (sym same) ∙ later);
  }
    where
      by : (st : Refusal) → is_put_off st ≡ true → Comes p (to_host host (reply t.xid (Reply.Refused who.inc st)))
          ⊎ In more (to_host host (reply t.xid (Reply.Refused who.inc st))) → ⊥
      by st off (inl x) = f.told st x off
      by st off (inr i) = none (reply t.xid (Reply.Refused who.inc st)) i

  pub free-client : (t : Ticket) (h : ℕ) (u : ClientStep) → step p.world e ≡ after_client p.world h u → IsFree host who p t
      → IsFree host who (play p e) t
  unfolding after_client
  free-client t h u to = free-quiet t (map (from_host h) u.sends) (ap (λ (w : World). w.packets) to) (λ m i. own-packets h u.sends host m i)
      (ap (λ (w : World). w.server) to)

  pub free-same : (t : Ticket) → step p.world e ≡ p.world → IsFree host who p t → IsFree host who (play p e) t
  free-same t to = free-quiet t [] (ap (λ (w : World). w.packets) to ∙ sym (append-nil p.world.packets)) (λ m i. i) (ap (λ (w : World). w.server) to)

-- ---- what the server sends

module _ (most : ℕ) (head : Head) (host : ℕ) (p : Play) (l : IsLawful most head p) (serves : recovers p.world.server.phase ≡ false) (c : Client)
    (at : slice_get p.world.clients host ≡ Some c) (on : c.attached ≡ true) where
  there : slice_get (run head p.events).clients host ≡ Some c
  there = subst (λ (u : World). slice_get u.clients host ≡ Some c) l.is_run at

  holds : Holds p.world
  holds = subst (λ u. Holds u) (sym l.is_run) (run-holds head p.events)

  mine : IsAt host c p.world.packets
  mine = holds.clients host c at

  current : (host_row p.world.server.kept host).inc ≡ c.who.inc
  current = subst (λ (u : World). (host_row u.server.kept host).inc ≡ c.who.inc) (sym l.is_run)
      (((run-runs most head p.events l.bounds l.within).known.clients host c there).lined.current on)

  lined : Lined c (host_row p.world.server.kept host)
  lined = subst (λ (u : World). Lined c (host_row u.server.kept host)) (sym l.is_run) (run-lined most head p.events l.bounds l.within host c there)

  long : length p.world.server.kept.hosts ≡ most_hosts
  long = subst (λ (u : World). length u.server.kept.hosts ≡ most_hosts) (sym l.is_run) (run-runs most head p.events l.bounds l.within).served.lines

  low : host < length p.world.server.kept.hosts
  low =
      let below = (run-runs most head p.events l.bounds l.within).few host c there in
      let few = l.bounds.hosts in
      let all = long in
      omega arith

  -- a sequence that the client draws next is above the kept one
  pub seq-above : (n : ℕ) → c.seq ≤ n → (host_row p.world.server.kept host).seq < n
  seq-above n up = let below = lined.below current in omega arith

  module _ (t : Ticket) (has : c.ticket ≡ Some t) (look : is_look t.request ≡ true) (free : IsFree host c.who p t) where
    asks : asker t.request ≡ Some c.who
    asks = (mine.mail.own t has).asks

    ordered : (n : ℕ) → sequence_of t.request ≡ Some n → (host_row p.world.server.kept host).seq ≤ n
    ordered n sq = let last = lined.drawn t n has sq in let below = lined.below current in omega arith

    served : (next : ℕ) → PutsNoneOff p.world.server host (receive p.world.server host next (request t.xid t.request))
    served next = puts-none-off p.world.server host c.who t.xid next serves mine.here low current t.request asks look ordered free.kept

    module _ (k : ℕ) (z : Packet) (sent : slice_get p.world.packets k ≡ Some z) (to : z.to ≡ Party.Server)
        (leads : step p.world (Event.Deliver k) ≡ after_server p.world
        (receive p.world.server (sending_host z.sender) (length p.world.packets) (datagram_of z.message))) where
      -- the datagram is the request of the ticket
      its : sending_host z.sender ≡ host → datagram_of z.message ≡ request t.xid t.request
          → PutsNoneOff p.world.server host (receive p.world.server (sending_host z.sender) (length p.world.packets) (datagram_of z.message))
      its from d = subst (λ h. PutsNoneOff p.world.server host (receive p.world.server h (length p.world.packets) (datagram_of z.message))) (sym from)
          (subst (λ g. PutsNoneOff p.world.server host (receive p.world.server host (length p.world.packets) g)) (sym d)
          (served (length p.world.packets)))

      asked : (x : ℕ) (r : Request) → datagram_of z.message ≡ request x r → Asked p.world.packets (sending_host z.sender) x r
      asked x r d = let i = in-get p.world.packets k z sent in (to-server p.world.packets z (holds.sent z i) to i x r d).0

      -- a refusal that is sent now
      refuses : (st : Refusal) → In (receive p.world.server (sending_host z.sender) (length p.world.packets) (datagram_of z.message)).sends
          (to_host host (reply t.xid (Reply.Refused c.who.inc st))) → is_put_off st ≡ true → ⊥
      refuses st i off =
          let link = all-linked p.world.server (sending_host z.sender) (length p.world.packets) (datagram_of z.message) host t.xid c.who.inc st i in
          let from : sending_host z.sender ≡ host = sym link.from ∙ link.same_host in
          let mail = mine.mail.asked t.xid link.asks link.who (subst (λ h. Asked p.world.packets h t.xid link.asks) (from ∙ sym mine.here)
          (asked t.xid link.asks link.is)) link.by in
          let same : t.request ≡ link.asks = mail.same link.same_inc t has refl in
          (its from (link.is ∙ ap (request t.xid) (sym same))).sends (to_host host (reply t.xid (Reply.Refused c.who.inc st))) i t.xid c.who.inc st refl off

      told-on : (st : Refusal) → Comes (play p (Event.Deliver k)) (to_host host (reply t.xid (Reply.Refused c.who.inc st))) → is_put_off st ≡ true → ⊥
      unfolding after_server
      told-on st x off = by (comes-from p (Event.Deliver k) (receive p.world.server (sending_host z.sender) (length p.world.packets)
          (datagram_of z.message)).sends (ap (λ (w : World). w.packets) leads) (to_host host (reply t.xid (Reply.Refused c.who.inc st))) x)
        where
          by : Comes p (to_host host (reply t.xid (Reply.Refused c.who.inc st))) ⊎ In (receive p.world.server (sending_host z.sender)
              (length p.world.packets) (datagram_of z.message)).sends (to_host host (reply t.xid (Reply.Refused c.who.inc st))) → ⊥
          by (inl old) = free.told st old off
          by (inr new) = refuses st new off

      -- ---- the verdict that is kept then

      abbrev after : HostRow
      after = host_row (receive p.world.server (sending_host z.sender) (length p.world.packets) (datagram_of z.message)).server.kept host

      -- what the line of the host is where the ticket's request was taken
      its-line : sending_host z.sender ≡ host → datagram_of z.message ≡ request t.xid t.request → (n : ℕ) → sequence_of t.request ≡ Some n
          → after.seq ≡ n → after.verdict ≡ Verdict.TryLater → ⊥
      its-line from d n sq is later = by (its from d).keeps
        where
          by : (after ≡ host_row p.world.server.kept host) ⊎ (after.verdict ≡ Verdict.TryLater → ⊥) → ⊥
          by (inl same) = free.kept n sq (ap (λ (r : HostRow). r.seq) (sym same) ∙ is) (ap (λ (r : HostRow). r.verdict) (sym same) ∙ later)
          by (inr final) = final later

      -- the packet is one of a host
      is-from : (x : ℕ) (r : Request) → datagram_of z.message ≡ request x r → z ≡ from_host (sending_host z.sender) (call x r)
      is-from x r d = by (holds.sent z (in-get p.world.packets k z sent))
        where
          by : IsSent z → z ≡ from_host (sending_host z.sender) (call x r)
          by (by_host h y s w e asks_it) =
              let sender : sending_host z.sender ≡ h = ap (λ (q : Packet). sending_host q.sender) e in
              let said : call y s ≡ call x r = ap (λ (q : Packet). q.message) (sym e) ∙ message-of z.message x r d in
              e ∙ ap (from_host h) said ∙ ap (λ n. from_host n (call x r)) (sym sender)
          by (by_server h m e) = let two : Party.Client h ≡ Party.Server = ap (λ (q : Packet). q.to) (sym e) ∙ to in absurd (cc)

      decided : (x seq value : ℕ) (w : Who) (r : Request) (v : Verdict) → datagram_of z.message ≡ request x r → asker r ≡ Some w
          → sequence_of r ≡ Some seq → host ≡ w.host → w.host ≡ sending_host z.sender → w.inc ≡ (host_row p.world.server.kept host).inc
          → (host_row p.world.server.kept host).seq < seq → after ≡ record { inc = w.inc; seq = seq; verdict = v; value = value }
          → (n : ℕ) → sequence_of t.request ≡ Some n → after.seq ≡ n → after.verdict ≡ Verdict.TryLater → ⊥
      decided x seq value w r v d by sq here from inc above is =
          let sender : sending_host z.sender ≡ host = sym from ∙ sym here in
          let same : w ≡ c.who = who-same w c.who (and_from _ _ (number-same w.host c.who.host (sym here ∙ sym mine.here))
          (number-same w.inc c.who.inc (inc ∙ current))) in
          let open_one : IsUnderWay c x r = opens (ap Some (is-from x r d ∙ ap (λ n. from_host n (call x r)) sender)) same in
          let one : open_one.ticket ≡ t = some-same open_one.ticket t (sym open_one.has ∙ has) in
          let number : t.xid ≡ x = ap (λ (y : Ticket). y.xid) (sym one) ∙ open_one.number in
          let its_request : t.request ≡ r = ap (λ (y : Ticket). y.request) (sym one) ∙ open_one.request in
          its-line sender (d ∙ ap (λ n. request n r) (sym number) ∙ ap (request t.xid) (sym its_request))
        where
          opens : Some z ≡ Some (from_host host (call x r)) → w ≡ c.who → IsUnderWay c x r
          opens packet same =
              (one-open-in-every-run most head p.events l.bounds l.within).under_way host k x c r seq there (record {
                asks = record {
                  sent = subst (λ (u : World). slice_get u.packets k ≡ Some (from_host host (call x r))) l.is_run (sent ∙ packet);
                  by = by ∙ ap Some same;
                  sequence = sq;
                };
                kept = subst (λ (u : World). (host_row u.server.kept host).inc ≡ c.who.inc) l.is_run current;
                above = subst (λ (u : World). (host_row u.server.kept host).seq < seq) l.is_run above;
              })

      kept-on : (n : ℕ) → sequence_of t.request ≡ Some n → after.seq ≡ n → after.verdict ≡ Verdict.TryLater → ⊥
      kept-on n sq is later = goes (line-goes p.world.server (sending_host z.sender) (length p.world.packets) (datagram_of z.message) host long)
        where
          goes : LineGoes p.world.server (sending_host z.sender) (datagram_of z.message) host after → ⊥
          goes (line_same same) = free.kept n sq (ap (λ (r : HostRow). r.seq) (sym same) ∙ is) (ap (λ (r : HostRow). r.verdict) (sym same) ∙ later)
          goes (line_attached w here above same) =
              let two : Verdict.Done ≡ Verdict.TryLater = ap (λ (r : HostRow). r.verdict) (sym same) ∙ later in cc
          goes (line_decided x seq value w r v d by drawn here from inc above same fair_verdict) =
              decided x seq value w r v d by drawn here from inc above same n sq is later

      free-server : IsFree host c.who (play p (Event.Deliver k)) t
      unfolding after_server
      free-server = record {
        told = told-on;
        kept = λ n sq is later. kept-on n sq (ap (λ (w : World). (host_row w.server.kept host).seq) (sym leads) ∙ is)
            (ap (λ (w : World). (host_row w.server.kept host).verdict) (sym leads) ∙ later);
      }

    -- each delivery and each call keeps it
    pub free-delivered : (k : ℕ) → IsFree host c.who (play p (Event.Deliver k)) t
    free-delivered k = by (delivery p.world k)
      where
        by : Delivery p.world k (step p.world (Event.Deliver k)) → IsFree host c.who (play p (Event.Deliver k)) t
        by (no_packet missing is) = free-same host c.who p (Event.Deliver k) t is free
        by (ignored h z d sent to there_is hears is) = free-same host c.who p (Event.Deliver k) t is free
        by (no_client h z sent to missing is) = free-same host c.who p (Event.Deliver k) t is free
        by (at_host h z d u sent to there_is hears is) = free-client host c.who p (Event.Deliver k) t h u is free
        by (at_server z sent to is) = free-server k z sent to is

    pub free-called : (h : ℕ) (op : Call) → IsFree host c.who (play p (Event.Call h op)) t
    free-called h op = by (slice_get p.world.clients h) refl
      where
        by : (o : Option Client) → slice_get p.world.clients h ≡ o → IsFree host c.who (play p (Event.Call h op)) t
        by None none = free-same host c.who p (Event.Call h op) t (ap (at_client p.world h (λ d. client_call d op)) none) free
        by (Some d) is = free-client host c.who p (Event.Call h op) t h (client_call d op) (ap (at_client p.world h (λ d. client_call d op)) is) free
