-- In every run: what holds of each client alone, and of its mail.
use Rattle.std.proofs.Common.{◌≡◌, ◌≢◌, ◌≤◌, ◌⊎◌, ℕ, zero, suc, ◌+◌, Bool, true, false, not, ◌&&◌, ◌==◌, List, [], ◌∷◌, ◌++◌, Option, Some, None}
use Rattle.std.proofs.Common.{is_some, map, refl, sym, subst, ap, ◌∙◌, arith, inl, inr, append-nil, length}
use Rattle.std.specs.Prelude.{slice_get, slice_set}
use Rattle.std.proofs.lemmas.Bool.{and_parts}
use Rattle.nq_base.specs.declared.Call.{Call}
use Rattle.nq_base.specs.declared.Event.{Event}
use Rattle.nq_base.specs.declared.Grant.{Grant}
use Rattle.nq_base.specs.declared.Party.{Party}
use Rattle.nq_base.specs.declared.Reply.{Reply}
use Rattle.nq_base.specs.declared.Request.{Request}
use Rattle.nq_base.specs.declared.Row.{Row}
use Rattle.nq_base.specs.declared.Tag.{Tag}
use Rattle.nq_base.specs.declared.Who.{Who}
use Rattle.walk_steps.proofs.ClientCases.{Core, core_of, Closed, Both}
use Rattle.walk_steps.proofs.ClientFacts.{Alone}
use Rattle.walk_steps.proofs.ClientMoves as move
use Rattle.walk_steps.proofs.ClientMoves.{some-same, none-some}
use Rattle.walk_steps.proofs.ClientWalk.{Replying, reply-keeps, notice-keeps, call-keeps, tick-keeps}
use Rattle.walk_steps.proofs.Mail.{packets_with, MailIn, mail-closed, spent-mail, server-mail, other-mail}
use Rattle.walk_steps.proofs.Packets.{In, in-right, in-append, in-last, in-get, Asked, Told, message-same, not-both, call-same, IsAsked, IsOwn, Mail}
use Rattle.walk_steps.proofs.Rows.{choice, same-number, number-same}
use Rattle.walk_steps.proofs.ServerCases.{request-sent, server-ticks}
use Rattle.walk_steps.proofs.ServerSays.{IsSaid, said_reply, said_error, said_notice, AllSaid, all-said}
use Rattle.nq_model.specs.protocol.Client.{Client, ClientStep, begun, attaching, Ticket, lease_on}
use Rattle.nq_model.specs.protocol.ClientStep.{client_call, client_tick, at_time, restart, starts, fresh_client, attached_client, next_incarnation}
use Rattle.nq_model.specs.protocol.Hear.{inc_of, is_reply_to, reply_counts, hear, hear_reply, hear_notice, hear_call, goes_on, replied, holds_later, evicted}
use Rattle.nq_model.specs.protocol.Hear.{cancels}
use Rattle.nq_model.specs.laws.LeaseInterval.{requested_file}
use Rattle.nq_model.specs.protocol.Message.{Message, Packet, call, reply, error, asker, request, datagram_of}
use Rattle.nq_model.specs.protocol.Server.{Server, ServerStep, to_host, quiet}
use Rattle.nq_model.specs.protocol.ServerStep.{receive, tick, crash, opens, ends_writing, at_time as at_server_time}
use Rattle.nq_model.specs.protocol.Table.{same_who}
use Rattle.nq_model.specs.protocol.World.{Head, World, from_host, after_server, after_client, at_client, after_hearing, sending_host, deliver_to_client}
use Rattle.nq_model.specs.protocol.World.{deliver_to, deliver, step, first_clients, start, run}

-- ---- lists by place

-- an element that is set is found
pub set-there : {A : Type 0} (xs : List A) (i : ℕ) (x y : A) → slice_get xs i ≡ Some y → slice_get (slice_set xs i x) i ≡ Some x
set-there [] i x y e = none-some y e
set-there (z ∷ xs) zero x y e = refl
set-there (z ∷ xs) (suc i) x y e = set-there xs i x y e

pub get-set-same : {A : Type 0} (xs : List A) (i : ℕ) (x y : A) → slice_get (slice_set xs i x) i ≡ Some y → y ≡ x
get-set-same [] i x y h = none-some y h
get-set-same (z ∷ xs) zero x y h = some-same y x (sym h)
get-set-same (z ∷ xs) (suc i) x y h = get-set-same xs i x y h

pub get-set-other : {A : Type 0} (xs : List A) (i j : ℕ) (x : A) → j ≢ i → slice_get (slice_set xs i x) j ≡ slice_get xs j
get-set-other [] i j x apart = refl
get-set-other (z ∷ xs) zero zero x apart = absurd (apart refl)
get-set-other (z ∷ xs) zero (suc j) x apart = refl
get-set-other (z ∷ xs) (suc i) zero x apart = refl
get-set-other (z ∷ xs) (suc i) (suc j) x apart = get-set-other xs i j x (λ e. apart (ap suc e))

-- ---- what a client sends are calls of some asker

pub record IsCall (m : Message) : Type 0 where
  pub xid : ℕ
  pub asks : Request
  pub who : Who
  pub is : m ≡ call xid asks
  pub by : asker asks ≡ Some who

abbrev pub AllCalls : List Message → Type 0
AllCalls sends = (m : Message) → In sends m → IsCall m

one-more : (sends : List Message) (m : Message) → IsCall m → AllCalls sends → AllCalls (sends ++ m ∷ [])
one-more sends m c all n h = step (in-last sends m n h)
  where
    step : In sends n ⊎ (m ≡ n) → IsCall n
    step (inl old) = all n old
    step (inr e) = subst (λ z. IsCall z) e c

-- in the middle of a client's step: it is the same incarnation, its mail, and that it sends calls
pub record Going (who : Who) (ps : List Packet) (k : Core) : Type 0 where
  pub same : k.who ≡ who
  pub mail : MailIn ps k
  pub calls : AllCalls k.sends

pub going-closed : (who : Who) (ps : List Packet) (Heard : ℕ → Tag → Type 0) (Given : ℕ → Grant → ℕ → Type 0) → Closed Heard Given (Going who ps)
going-closed who ps Heard Given =
    let m = mail-closed ps Heard Given in
    record {
      uses = λ k file g. record { same = g.same; mail = m.uses k file g.mail; calls = g.calls };
      drops = λ k file g. record { same = g.same; mail = m.drops k file g.mail; calls = g.calls };
      vacates =
          λ k file tag can g. record {
            same = g.same;
            mail = m.vacates k file tag can g.mail;
            calls = one-more k.sends
                (call k.xid (Request.Vacated k.who file tag))
                (record { xid = k.xid; asks = Request.Vacated k.who file tag; who = k.who; is = refl; by = refl }) g.calls;
          };
      asks =
          λ k job request no_seq can g. record {
            same = g.same;
            mail = m.asks k job request no_seq can g.mail;
            calls = one-more k.sends (call k.xid request)
                (record { xid = k.xid; asks = request; who = k.who; is = refl; by = can.asks }) g.calls;
          };
      decides =
          λ k job request seq can g. record {
            same = g.same;
            mail = m.decides k job request seq can g.mail;
            calls = one-more k.sends (call k.xid request)
                (record { xid = k.xid; asks = request; who = k.who; is = refl; by = can.asks }) g.calls;
          };
      again =
          λ k t is g. record {
            same = g.same;
            mail = m.again k t is g.mail;
            calls = one-more k.sends (call t.xid t.request)
                (record { xid = t.xid; asks = t.request; who = k.who; is = refl; by = (g.mail.own t is).asks }) g.calls;
          };
      holds = λ k file gr sent given free unnoticed g. record { same = g.same; mail = m.holds k file gr sent given free unnoticed g.mail; calls = g.calls };
      cancels = λ k file g. record { same = g.same; mail = m.cancels k file g.mail; calls = g.calls };
      notes = λ k file tag heard g. record { same = g.same; mail = m.notes k file tag heard g.mail; calls = g.calls };
    }

-- ---- the invariant

-- a client at a host
pub record IsAt (host : ℕ) (c : Client) (ps : List Packet) : Type 0 where
  pub here : c.who.host ≡ host
  pub alone : Alone c
  pub mail : Mail c.who c.xid c.ticket ps

-- a packet that was sent: a call of a host's client, or a message of the server
pub data IsSent (p : Packet) : Type 0 where
  by_host : (host xid : ℕ) (r : Request) (w : Who) → p ≡ from_host host (call xid r) → asker r ≡ Some w → IsSent p
  by_server : (host : ℕ) (m : Message) → p ≡ to_host host m → IsSent p

pub record Holds (w : World) : Type 0 where
  pub clients : (host : ℕ) (c : Client) → slice_get w.clients host ≡ Some c → IsAt host c w.packets
  pub sent : (p : Packet) → In w.packets p → IsSent p

-- ---- a step of a client

sent-calls : (host : ℕ) (sends : List Message) → AllCalls sends → (p : Packet) → In (map (from_host host) sends) p → IsSent p
sent-calls host [] all p h = absurd h
sent-calls host (m ∷ ms) all p (inl e) = let c = all m (inl refl) in by_host host c.xid c.asks c.who (sym e ∙ ap (from_host host) c.is) c.by
sent-calls host (m ∷ ms) all p (inr h) = sent-calls host ms (λ n i. all n (inr i)) p h

-- the client after the step
pub record Moved (host : ℕ) (ps : List Packet) (t : ClientStep) : Type 0 where
  pub here : t.client.who.host ≡ host
  pub alone : Alone t.client
  pub mail : Mail t.client.who t.client.xid t.client.ticket (packets_with ps host t.sends)
  pub calls : AllCalls t.sends

moved : (host : ℕ) (who : Who) (ps : List Packet) (t : ClientStep) → who.host ≡ host → Both (Going who ps) t → Moved host ps t
moved host who ps t here b =
    let same : t.client.who.host ≡ host = ap (λ w. w.host) b.core.same ∙ here in
    record {
      here = same;
      alone = b.alone;
      mail = subst (λ h. Mail t.client.who t.client.xid t.client.ticket (packets_with ps h t.sends)) same b.core.mail;
      calls = b.core.calls;
    }

client-holds : (w : World) (host : ℕ) (t : ClientStep) → Moved host w.packets t → Holds w → Holds (after_client w host t)
unfolding after_client
client-holds w host t m h = record {
  clients = λ other c e. case other c (other == host) refl e;
  sent = λ p i. from p (in-append w.packets (map (from_host host) t.sends) p i);
} where
  case : (other : ℕ) (c : Client) (b : Bool) → (other == host) ≡ b → slice_get (slice_set w.clients host t.client) other ≡ Some c
      → IsAt other c (packets_with w.packets host t.sends)
  case other c true same e =
      let one : other ≡ host = same-number other host same in
      let is : c ≡ t.client = get-set-same w.clients host t.client c (subst (λ n. slice_get (slice_set w.clients host t.client) n ≡ Some c) one e) in
      subst (λ n. IsAt n c (packets_with w.packets host t.sends)) (sym one)
      (subst (λ z. IsAt host z (packets_with w.packets host t.sends)) (sym is) (record { here = m.here; alone = m.alone; mail = m.mail }))
  case other c false differs e =
      let apart : other ≢ host = λ same. let is : (other == host) ≡ true = number-same other host same in absurd (cc) in
      let a = h.clients other c (sym (get-set-other w.clients host other t.client apart) ∙ e) in
      record { here = a.here; alone = a.alone; mail = other-mail host t.sends (λ same. apart (sym a.here ∙ same)) a.mail }

  from : (p : Packet) → In w.packets p ⊎ In (map (from_host host) t.sends) p → IsSent p
  from p (inl old) = h.sent p old
  from p (inr new) = sent-calls host t.sends m.calls p new

pub begun-going : (host : ℕ) (c : Client) (ps : List Packet) → IsAt host c ps → Going c.who ps (core_of (begun c))
begun-going host c ps a = record { same = refl; mail = subst (λ qs. Mail c.who c.xid c.ticket qs) (sym (append-nil ps)) a.mail; calls = λ m i. absurd i }

abbrev nothing-heard : ℕ → Tag → Type 0
nothing-heard file tag = ⊥

abbrev nothing-given : ℕ → Grant → ℕ → Type 0
nothing-given file g sent = ⊥

called : (host : ℕ) (c : Client) (ps : List Packet) (op : Call) → IsAt host c ps → Moved host ps (client_call c op)
called host c ps op a =
    moved host c.who ps (client_call c op) a.here (call-keeps (going-closed c.who ps nothing-heard nothing-given) c op a.alone (begun-going host c ps a))

pub timed-going : (host : ℕ) (c : Client) (ps : List Packet) (now : ℕ) → IsAt host c ps → Going c.who ps (core_of (begun (at_time c now)))
unfolding at_time
timed-going host c ps now a = record { same = refl; mail = subst (λ qs. Mail c.who c.xid c.ticket qs) (sym (append-nil ps)) a.mail; calls = λ m i. absurd i }

ticked : (host : ℕ) (c : Client) (ps : List Packet) → IsAt host c ps → Moved host ps (client_tick c (c.now + 1))
ticked host c ps a =
    moved host c.who ps (client_tick c (c.now + 1)) a.here
    (tick-keeps (going-closed c.who ps nothing-heard nothing-given) c (c.now + 1) (omega arith) a.alone (timed-going host c ps (c.now + 1) a))

-- a restart: the next incarnation is new to all mail
restarted : (host : ℕ) (c : Client) (ps : List Packet) → IsAt host c ps → Moved host ps (restart c)
unfolding starts fresh_client
restarted host c ps a = record {
  here = a.here;
  alone = record {
    asking = move.waits who c.now;
    delaying = record { noticed = λ f n e. none-some n e; under_way = λ p e. none-some p e; empty = λ e. refl };
  };
  mail = subst (λ h. Mail who 2 (Some ticket) (ps ++ from_host h (call 1 (Request.Attach who)) ∷ [])) a.here mail;
  calls = λ m i. case m i;
} where
  who : Who
  who = next_incarnation c.who

  ticket : Ticket
  ticket = record { xid = 1; first = c.now; last = c.now; request = Request.Attach who; job = attaching }

  mine : Packet
  mine = from_host c.who.host (call 1 (Request.Attach who))

  asked : (x : ℕ) (r : Request) (w : Who) → asker r ≡ Some w → In ps (from_host c.who.host (call x r)) ⊎ (mine ≡ from_host c.who.host (call x r))
      → IsAsked who 2 (Some ticket) x r w
  asked x r w by (inl old) = let k = a.mail.asked x r w old by in record {
    host = k.host;
    inc = let below = k.inc in omega arith;
    number = λ i. let below = k.inc in absurd (omega arith);
    same = λ i t e n. let below = k.inc in absurd (omega arith);
  }
  asked x r w by (inr new) =
      let m = call-same 1 x (Request.Attach who) r (message-same c.who.host c.who.host (call 1 (Request.Attach who)) (call x r) new).1 in
      let one : who ≡ w = some-same who w (ap asker m.1 ∙ by) in
      record {
        host = ap (λ z. z.host) (sym one);
        inc = let e : who.inc ≡ w.inc = ap (λ z. z.inc) one in omega arith;
        number = λ i. let e = m.0 in omega arith;
        same = λ i t e n. ap (λ z. z.request) (sym (some-same ticket t e)) ∙ m.1;
      }

  told : (x : ℕ) (b : Reply) → In ps (to_host c.who.host (reply x b)) ⊎ (mine ≡ to_host c.who.host (reply x b)) → inc_of b ≤ c.who.inc
  told x b (inl old) = a.mail.past x b old
  told x b (inr bad) = absurd (not-both c.who.host c.who.host (call 1 (Request.Attach who)) (reply x b) bad)

  mail : Mail who 2 (Some ticket) (ps ++ mine ∷ [])
  mail = record {
    asked = λ x r w sent by. asked x r w by (in-last ps mine (from_host c.who.host (call x r)) sent);
    replied = λ x b sent i. let below = told x b (in-last ps mine (to_host c.who.host (reply x b)) sent) in absurd (omega arith);
    past = λ x b sent. let below = told x b (in-last ps mine (to_host c.who.host (reply x b)) sent) in omega arith;
    own =
        λ t e. subst (λ z. IsOwn who 2 (ps ++ mine ∷ []) z) (some-same ticket t e)
        (record { number = omega arith; asks = refl; sent = in-right ps (mine ∷ []) mine (inl refl) });
  }

  case : (m : Message) → (call 1 (Request.Attach who) ≡ m) ⊎ ⊥ → IsCall m
  case m (inl e) = record { xid = 1; asks = Request.Attach who; who = who; is = sym e; by = refl }
  case m (inr bad) = absurd bad

-- ---- a datagram at a client

abbrev something-heard : ℕ → Tag → Type 0
something-heard file tag = Unit {0}

abbrev pub given-by : Ticket → ℕ → Grant → ℕ → Type 0
given-by ticket file g sent = requested_file ticket.request ≡ Some file

abbrev MovedIf : (host : ℕ) → List Packet → Option ClientStep → Type 0
MovedIf host ps None = Unit {0}
MovedIf host ps (Some t) = Moved host ps t

heard-reply : (host : ℕ) (c : Client) (ps : List Packet) (number xid : ℕ) (r : Reply) (o : Option Ticket) → c.ticket ≡ o → IsAt host c ps
    → Told ps host (reply xid r) → MovedIf host ps (hear_reply c number xid r o)
heard-reply host c ps number xid r None is a sent = tt
heard-reply host c ps number xid r (Some ticket) is a sent =
    choice (MovedIf host ps) (is_reply_to c xid r ticket) (Some (goes_on (replied (begun c) number ticket r))) None
    (λ e. let k = and_parts _ _ e in let l = and_parts _ _ k.0 in
    moved host c.who ps (goes_on (replied (begun c) number ticket r)) a.here
    (reply-keeps (going-closed c.who ps nothing-heard (given-by ticket)) c number ticket r (replying k.1 (same-number _ _ l.0) (same-number _ _ l.1))))
    (λ e. tt)
  where
    before : Going c.who ps (core_of (begun c))
    before = begun-going host c ps a

    spent : MailIn ps (record (core_of (begun c)) { ticket = None })
    spent = spent-mail (packets_with ps c.who.host []) c.who c.xid c.ticket before.mail

    replying : reply_counts r ticket ≡ true → xid ≡ ticket.xid → inc_of r ≡ c.who.inc → Replying (given-by ticket) (Going c.who ps) c ticket r
    replying counts same inc = record {
      asked = is;
      counts = counts;
      alone = a.alone;
      spent = λ other. record { same = refl; mail = spent; calls = before.calls };
      attached = λ job. record { same = refl; mail = spent; calls = before.calls };
      brings =
          λ file on g grants. (
            on,
            (a.mail.replied xid r (subst (λ h. Told ps h (reply xid r)) (sym a.here) sent) inc).wants ticket is (sym same) g
                grants file on,
          );
      only = λ file g at given. given;
    }

heard-notice : (host : ℕ) (c : Client) (ps : List Packet) (who : Who) (file : ℕ) (tag : Tag) → IsAt host c ps → MovedIf host ps (hear_notice c who file tag)
heard-notice host c ps who file tag a =
    choice (MovedIf host ps) (same_who who c.who && not (holds_later tag (lease_on file c.leases)))
    (Some (goes_on (evicted (cancels (begun c) file) file tag))) None
    (λ e. moved host c.who ps (goes_on (evicted (cancels (begun c) file) file tag)) a.here
    (notice-keeps (going-closed c.who ps something-heard nothing-given) c file tag tt (λ g sent bad. bad) a.alone (begun-going host c ps a)))
    (λ e. tt)

heard-call : (host : ℕ) (c : Client) (ps : List Packet) (r : Request) → IsAt host c ps → MovedIf host ps (hear_call c r)
heard-call host c ps (Request.Evicted who file tag) a = heard-notice host c ps who file tag a
heard-call host c ps other a = tt

heard : (host : ℕ) (c : Client) (ps : List Packet) (number : ℕ) (m : Message) → IsAt host c ps → Told ps host m → MovedIf host ps (hear c number m)
heard host c ps number (reply xid r) a sent = heard-reply host c ps number xid r c.ticket refl a sent
heard host c ps number (call xid r) a sent = heard-call host c ps r a
heard host c ps number (error xid e) a sent = tt

hearing-holds : (w : World) (host : ℕ) (o : Option ClientStep) → MovedIf host w.packets o → Holds w → Holds (after_hearing w host o)
hearing-holds w host None m h = h
hearing-holds w host (Some t) m h = client-holds w host t m h

to-client-holds : (w : World) (k host : ℕ) (m : Message) (o : Option Client) → slice_get w.clients host ≡ o → Told w.packets host m → Holds w
    → Holds (deliver_to_client w k host m o)
to-client-holds w k host m None is sent h = h
to-client-holds w k host m (Some c) is sent h = hearing-holds w host (hear c k m) (heard host c w.packets k m (h.clients host c is) sent) h

-- ---- a step of the server

server-holds : (w : World) (t : ServerStep) → AllSaid w.packets t.sends → Holds w → Holds (after_server w t)
unfolding after_server
server-holds w t said h = record {
  clients = λ host c e. let a = h.clients host c e in record { here = a.here; alone = a.alone; mail = server-mail t.sends said a.mail };
  sent = λ p i. from p (in-append w.packets t.sends p i);
} where
  is-sent : (p : Packet) → IsSaid w.packets p → IsSent p
  is-sent p (said_reply host xid a e k) = by_server host (reply xid a) e
  is-sent p (said_error host xid er e) = by_server host (error xid er) e
  is-sent p (said_notice xid row e) = by_server row.who.host (call xid (Request.Evicted row.who row.file row.tag)) e

  from : (p : Packet) → In w.packets p ⊎ In t.sends p → IsSent p
  from p (inl old) = h.sent p old
  from p (inr new) = is-sent p (said p new)

-- a packet to the server is a call of the host that sent it
pub to-server : (ps : List Packet) (p : Packet) → IsSent p → p.to ≡ Party.Server → In ps p → (xid : ℕ) (r : Request)
    → datagram_of p.message ≡ request xid r → Asked ps (sending_host p.sender) xid r × (is_some (asker r) ≡ true)
to-server ps p (by_host host x s w e by) to i xid r d =
    let m : call x s ≡ call xid r = ap (λ q. q.message) (sym e) ∙ request-sent p.message xid r d in
    let c = call-same x xid s r m in
    let at : sending_host p.sender ≡ host = ap (λ q. sending_host q.sender) e in
    (subst (λ z. In ps z) (e ∙ ap (from_host host) m ∙ ap (λ h. from_host h (call xid r)) (sym at)) i, ap is_some (ap asker (sym c.1) ∙ by))
to-server ps p (by_server host m e) to i xid r d = let other : Party.Client host ≡ Party.Server = ap (λ q. q.to) (sym e) ∙ to in absurd (cc)

pub received-said : (w : World) (p : Packet) → In w.packets p → p.to ≡ Party.Server → Holds w
    → AllSaid w.packets (receive w.server (sending_host p.sender) (length w.packets) (datagram_of p.message)).sends
received-said w p i to h =
    all-said w.packets w.server (sending_host p.sender) (length w.packets) (datagram_of p.message)
    (λ xid r d. (to-server w.packets p (h.sent p i) to i xid r d).0)
    (λ xid d. let some = (to-server w.packets p (h.sent p i) to i xid Request.Null d).1 in absurd (cc))

-- a packet to a client is a message of the server
pub to-told : (ps : List Packet) (p : Packet) (host : ℕ) → IsSent p → p.to ≡ Party.Client host → In ps p → Told ps host p.message
to-told ps p host (by_host h x s w e by) to i = let other : Party.Server ≡ Party.Client host = ap (λ q. q.to) (sym e) ∙ to in absurd (cc)
to-told ps p host (by_server h m e) to i =
    let same : h ≡ host = client-same h host (ap (λ q. q.to) (sym e) ∙ to) in
    subst (λ z. In ps z) (e ∙ ap (to_host h) (ap (λ q. q.message) (sym e)) ∙ ap (λ n. to_host n p.message) same) i
  where
    client-same : (a b : ℕ) → Party.Client a ≡ Party.Client b → a ≡ b
    client-same a b f = cc

delivered-holds : (w : World) (k : ℕ) (p : Packet) (to : Party) → p.to ≡ to → In w.packets p → Holds w → Holds (deliver_to w k p to)
delivered-holds w k p Party.Server to i h =
    server-holds w (receive w.server (sending_host p.sender) (length w.packets) (datagram_of p.message)) (received-said w p i to h) h
delivered-holds w k p (Party.Client host) to i h =
    to-client-holds w k host p.message (slice_get w.clients host) refl (to-told w.packets p host (h.sent p i) to i) h

deliver-holds : (w : World) (k : ℕ) (o : Option Packet) → slice_get w.packets k ≡ o → Holds w → Holds (deliver w k o)
deliver-holds w k None is h = h
deliver-holds w k (Some p) is h = delivered-holds w k p p.to refl (in-get w.packets k p is) h

at-client-holds : (w : World) (host : ℕ) (f : Client → ClientStep) (o : Option Client) → slice_get w.clients host ≡ o
    → ((c : Client) → IsAt host c w.packets → Moved host w.packets (f c)) → Holds w → Holds (at_client w host f o)
at-client-holds w host f None is goes h = h
at-client-holds w host f (Some c) is goes h = client-holds w host (f c) (goes c (h.clients host c is)) h

quiet-none : (ps : List Packet) (t : Server) → AllSaid ps (quiet t).sends
unfolding quiet
quiet-none ps t p i = absurd i

opens-none : (ps : List Packet) (t : Server) (u hd : ℕ) → AllSaid ps (opens t u hd).sends
unfolding opens
opens-none ps t u hd p i = absurd i

ends-none : (ps : List Packet) (t : Server) (rows : List Row) (row : Row) → AllSaid ps (ends_writing t rows row).sends
unfolding ends_writing
ends-none ps t rows row p i = absurd i

pub tick-said : (ps : List Packet) (s : Server) (now : ℕ) → AllSaid ps (tick s now).sends
tick-said ps s now = server-ticks s now (λ t. AllSaid ps t.sends) (record {
  waits = λ u hd l e b. quiet-none ps (at_server_time s now);
  opening = λ u hd l e b. opens-none ps (at_server_time s now) u hd;
  ends_reading = λ e f. quiet-none ps _;
  ending_writing = λ row e f. ends-none ps (at_server_time s now) _ row;
})

pub crash-said : (ps : List Packet) (s : Server) (longest : ℕ) → AllSaid ps (crash s longest).sends
unfolding crash
crash-said ps s longest p i = absurd i

-- each event keeps it
pub step-holds : (w : World) (e : Event) → Holds w → Holds (step w e)
step-holds w (Event.Call host op) h = at-client-holds w host (λ c. client_call c op) (slice_get w.clients host) refl (λ c a. called host c w.packets op a) h
step-holds w (Event.Deliver k) h = deliver-holds w k (slice_get w.packets k) refl h
step-holds w Event.ServerTick h = server-holds w (tick w.server (w.server.now + 1)) (tick-said w.packets w.server (w.server.now + 1)) h
step-holds w (Event.ClientTick host) h =
    at-client-holds w host (λ c. client_tick c (c.now + 1)) (slice_get w.clients host) refl (λ c a. ticked host c w.packets a) h
step-holds w (Event.Restart host) h = at-client-holds w host restart (slice_get w.clients host) refl (λ c a. restarted host c w.packets a) h
step-holds w (Event.Crash longest) h = server-holds w (crash w.server longest) (crash-said w.packets w.server longest) h

-- ---- the start

pub first-client : (term first count host : ℕ) (c : Client) → slice_get (first_clients term first count) host ≡ Some c
    → c ≡ attached_client (record { host = first + host; inc = 1 }) term 0
first-client term first zero host c e = none-some c e
first-client term first (suc count) zero c e = some-same c _ (sym e) ∙ ap (λ n. attached_client (record { host = n; inc = 1 }) term 0) (omega arith)
first-client term first (suc count) (suc host) c e =
    first-client term (first + 1) count host c e ∙ ap (λ n. attached_client (record { host = n; inc = 1 }) term 0) (omega arith)

starts-at : (host term : ℕ) → IsAt host (attached_client (record { host = host; inc = 1 }) term 0) []
unfolding attached_client fresh_client
starts-at host term = record {
  here = refl;
  alone = record {
    asking = move.starts (record { host = host; inc = 1 });
    delaying = record { noticed = λ f n e. none-some n e; under_way = λ p e. none-some p e; empty = λ e. refl };
  };
  mail = record { asked = λ x r w i. absurd i; replied = λ x a i. absurd i; past = λ x a i. absurd i; own = λ t e. none-some t e };
}

start-holds : (head : Head) → Holds (start head)
unfolding start
start-holds head = record {
  clients =
      λ host c e. subst (λ z. IsAt host z [])
      (sym (first-client head.term 0 head.hosts host c e ∙ ap (λ n. attached_client (record { host = n; inc = 1 }) head.term 0) (omega arith)))
      (starts-at host head.term);
  sent = λ p i. absurd i;
}

-- in every run
pub run-holds : (head : Head) (events : List Event) → Holds (run head events)
run-holds head [] = start-holds head
run-holds head (e ∷ earlier) = step-holds (run head earlier) e (run-holds head earlier)
