-- The mail of one client is kept by each of its steps, and by each step of the server.
use Rattle.std.proofs.Common.{◌≡◌, ◌≤◌, ◌⊎◌, ℕ, ◌+◌, true, List, [], ◌∷◌, ◌++◌, Option, Some, None, map, refl, sym, subst, ap, ◌∙◌, arith, inl, inr}
use Rattle.std.proofs.Common.{append_assoc}
use Rattle.nq_base.specs.declared.Grant.{Grant}
use Rattle.nq_base.specs.declared.Reply.{Reply}
use Rattle.nq_base.specs.declared.Request.{Request}
use Rattle.nq_base.specs.declared.Tag.{Tag}
use Rattle.nq_base.specs.declared.Who.{Who}
use Rattle.walk_steps.proofs.ClientCases.{Core, Closed, after_request, after_vacated, after_again}
use Rattle.walk_steps.proofs.ClientMoves.{some-same, none-some, keeps-or-cancels}
use Rattle.walk_steps.proofs.Packets.{In, in-left, in-append, Asked, message-same, told-same, not-both, reply-same, IsReplied, Mail, IsFewer, fewer}
use Rattle.walk_steps.proofs.Packets.{mail-sends, mail-adds, mail-again, Told}
use Rattle.walk_steps.proofs.ServerSays.{IsSaid, said_reply, said_error, said_notice, AllSaid}
use Rattle.nq_model.specs.protocol.Client.{Job, Ticket}
use Rattle.nq_model.specs.protocol.Hear.{wants_of, inc_of, cancelled}
use Rattle.nq_model.specs.laws.LeaseInterval.{grant_in, requested_file}
use Rattle.nq_model.specs.protocol.Message.{Message, Packet, call, reply, error, asker}
use Rattle.nq_model.specs.protocol.Server.{to_host}
use Rattle.nq_model.specs.protocol.World.{from_host}

-- the packets after what a client sent in the step so far
abbrev pub packets_with : List Packet → (host : ℕ) → List Message → List Packet
packets_with ps host sends = ps ++ map (from_host host) sends

map-last : {A B : Type 0} (f : A → B) (xs : List A) (y : A) → map f (xs ++ y ∷ []) ≡ map f xs ++ f y ∷ []
map-last f [] y = refl
map-last f (x ∷ xs) y = ap (λ zs. f x ∷ zs) (map-last f xs y)

-- one more message
pub packets-last : (ps : List Packet) (host : ℕ) (sends : List Message) (m : Message)
    → packets_with ps host (sends ++ m ∷ []) ≡ packets_with ps host sends ++ from_host host m ∷ []
packets-last ps host sends m =
    ap (λ qs. ps ++ qs) (map-last (from_host host) sends m) ∙ sym (append_assoc ps (map (from_host host) sends) (from_host host m ∷ []))

-- a client sends nothing to a host
pub none-to-host : (host other : ℕ) (ms : List Message) (m : Message) → In (map (from_host host) ms) (to_host other m) → ⊥
none-to-host host other [] m i = i
none-to-host host other (n ∷ ms) m (inl e) = not-both host other n m e
none-to-host host other (n ∷ ms) m (inr i) = none-to-host host other ms m i

-- what a host is told was there before a client's step
pub old-told : (ps : List Packet) (host other : ℕ) (sends : List Message) (m : Message) → Told (packets_with ps host sends) other m → Told ps other m
old-told ps host other sends m told = case (in-append ps (map (from_host host) sends) (to_host other m) told)
  where
    case : In ps (to_host other m) ⊎ In (map (from_host host) sends) (to_host other m) → In ps (to_host other m)
    case (inl old) = old
    case (inr new) = absurd (none-to-host host other sends m new)

-- a request among what a client sent
pub sent-calls : (host other : ℕ) (sends : List Message) (x : ℕ) (r : Request) → In (map (from_host host) sends) (from_host other (call x r))
    → In sends (call x r)
sent-calls host other [] x r i = i
sent-calls host other (m ∷ ms) x r (inl e) = inl (message-same host other m (call x r) e).1
sent-calls host other (m ∷ ms) x r (inr i) = inr (sent-calls host other ms x r i)

-- what a client sends is from its host
pub sent-host : (host other : ℕ) (ms : List Message) (m : Message) → In (map (from_host host) ms) (from_host other m) → host ≡ other
sent-host host other [] m i = absurd i
sent-host host other (n ∷ ms) m (inl e) = (message-same host other n m e).0
sent-host host other (n ∷ ms) m (inr i) = sent-host host other ms m i

-- what another host asked was asked before a client's step
pub other-asked : (ps : List Packet) (host other : ℕ) (sends : List Message) (x : ℕ) (r : Request) → (other ≡ host → ⊥)
    → Asked (packets_with ps host sends) other x r → Asked ps other x r
other-asked ps host other sends x r apart asked = case (in-append ps (map (from_host host) sends) (from_host other (call x r)) asked)
  where
    case : In ps (from_host other (call x r)) ⊎ In (map (from_host host) sends) (from_host other (call x r)) → In ps (from_host other (call x r))
    case (inl old) = old
    case (inr new) = absurd (apart (sym (sent-host host other sends (call x r) new)))

-- the mail in the middle of a step
abbrev pub MailIn : List Packet → Core → Type 0
MailIn ps k = Mail k.who k.xid k.ticket (packets_with ps k.who.host k.sends)

no-fewer : (ticket : Option Ticket) → IsFewer None ticket
no-fewer ticket t e = none-some t e

pub same-fewer : (t : Ticket) (now : ℕ) → IsFewer (Some (record t { last = now })) (Some t)
same-fewer t now u e =
    let one : record t { last = now } ≡ u = some-same (record t { last = now }) u e in (t, refl, ap (λ z. z.xid) one, ap (λ z. z.request) one)

pub cancelled-fewer : (file : ℕ) (ticket : Option Ticket) → IsFewer (cancelled file ticket) ticket
cancelled-fewer file ticket t e = (t, (keeps-or-cancels file ticket t e).0, refl, refl)

asks-mail : (ps : List Packet) (k : Core) (job : Job) (request : Request) → k.ticket ≡ None → asker request ≡ Some k.who → MailIn ps k
    → MailIn ps (after_request k job request)
asks-mail ps k job request free asks m =
    let t : Ticket = record { xid = k.xid; first = k.now; last = k.now; request = request; job = job } in
    subst (λ qs. Mail k.who (k.xid + 1) (Some t) qs) (sym (packets-last ps k.who.host k.sends (call k.xid request)))
    (mail-sends t refl asks (subst (λ o. Mail k.who k.xid o (packets_with ps k.who.host k.sends)) free m))

vacates-mail : (ps : List Packet) (k : Core) (file : ℕ) (tag : Tag) → MailIn ps k → MailIn ps (after_vacated k file tag)
vacates-mail ps k file tag m =
    subst (λ qs. Mail k.who (k.xid + 1) k.ticket qs) (sym (packets-last ps k.who.host k.sends (call k.xid (Request.Vacated k.who file tag))))
    (mail-adds (Request.Vacated k.who file tag) refl m)

again-mail : (ps : List Packet) (k : Core) (t : Ticket) → k.ticket ≡ Some t → MailIn ps k → MailIn ps (after_again k t)
again-mail ps k t is m =
    subst (λ qs. Mail k.who k.xid (Some (record t { last = k.now })) qs) (sym (packets-last ps k.who.host k.sends (call t.xid t.request)))
    (fewer (Some (record t { last = k.now })) (same-fewer t k.now)
    (mail-again t refl (subst (λ o. Mail k.who k.xid o (packets_with ps k.who.host k.sends)) is m)))

-- each small change of a client keeps its mail
pub mail-closed : (ps : List Packet) (Heard : ℕ → Tag → Type 0) (Given : ℕ → Grant → ℕ → Type 0) → Closed Heard Given (MailIn ps)
mail-closed ps Heard Given = record {
  uses = λ k file m. m;
  drops = λ k file m. m;
  vacates = λ k file tag can m. vacates-mail ps k file tag m;
  asks = λ k job request no_seq can m. asks-mail ps k job request can.free can.asks m;
  decides = λ k job request seq can m. asks-mail ps (record k { seq = k.seq + 1 }) job request can.free can.asks m;
  again = λ k t is m. again-mail ps k t is m;
  holds = λ k file g sent given free unnoticed m. m;
  cancels = λ k file m. fewer (cancelled file k.ticket) (cancelled-fewer file k.ticket) m;
  notes = λ k file tag heard m. m;
}

pub spent-mail : (ps : List Packet) (who : Who) (xid : ℕ) (ticket : Option Ticket) → Mail who xid ticket ps → Mail who xid None ps
spent-mail ps who xid ticket m = fewer None (no-fewer ticket) m

-- a step of the server keeps the mail of each client
pub server-mail : {who : Who} {xid : ℕ} {ticket : Option Ticket} {ps : List Packet} (sends : List Packet) → AllSaid ps sends → Mail who xid ticket ps
    → Mail who xid ticket (ps ++ sends)
server-mail {who = who} {xid = xid} {ticket = ticket} {ps = ps} sends said m = record {
  asked = λ x r w sent by. m.asked x r w (old x r (in-append ps sends (from_host who.host (call x r)) sent)) by;
  replied = λ x a sent i. told x a i (in-append ps sends (to_host who.host (reply x a)) sent);
  past = λ x a sent. before x a (in-append ps sends (to_host who.host (reply x a)) sent);
  own = λ t e. let k = m.own t e in record { number = k.number; asks = k.asks; sent = in-left ps sends (from_host who.host (call t.xid t.request)) k.sent };
} where
  not-said : (x : ℕ) (r : Request) → IsSaid ps (from_host who.host (call x r)) → ⊥
  not-said x r (said_reply host xid a e k) = not-both who.host host (call x r) (reply xid a) e
  not-said x r (said_error host xid e is) = not-both who.host host (call x r) (error xid e) is
  not-said x r (said_notice xid row e) = not-both who.host row.who.host (call x r) (call xid (Request.Evicted row.who row.file row.tag)) e

  old : (x : ℕ) (r : Request) → In ps (from_host who.host (call x r)) ⊎ In sends (from_host who.host (call x r)) → In ps (from_host who.host (call x r))
  old x r (inl there) = there
  old x r (inr new) = absurd (not-said x r (said (from_host who.host (call x r)) new))

  fresh : (x : ℕ) (a : Reply) → inc_of a ≡ who.inc → IsSaid ps (to_host who.host (reply x a)) → IsReplied xid ticket x a
  fresh x a i (said_reply host y b e k) =
      let t = told-same who.host host (reply x a) (reply y b) e in
      let p = reply-same x y a b t.1 in
      let sent : Asked ps who.host x k.asks = subst (λ n. Asked ps who.host n k.asks) (sym p.0) (subst (λ h. Asked ps h y k.asks) (sym t.0) k.sent) in
      let n = m.asked x k.asks k.who sent k.by in
      let inc : k.who.inc ≡ who.inc = sym k.inc ∙ ap inc_of (sym p.1) ∙ i in
      record {
        number = n.number inc;
        wants =
            λ u f g grant granted file on. let same : u.request ≡ k.asks = n.same inc u f g in
            subst (λ r. wants_of file r ≡ true) (sym same) (k.wants grant (ap grant_in (sym p.1) ∙ granted) file (ap requested_file (sym same) ∙ on));
      }
  fresh x a i (said_error host y e is) = let t = told-same who.host host (reply x a) (error y e) is in absurd (cc)
  fresh x a i (said_notice y row is) = let t = told-same who.host row.who.host (reply x a) (call y (Request.Evicted row.who row.file row.tag)) is in
      absurd (cc)

  later : (x : ℕ) (a : Reply) → IsSaid ps (to_host who.host (reply x a)) → inc_of a ≤ who.inc
  later x a (said_reply host y b e k) =
      let t = told-same who.host host (reply x a) (reply y b) e in
      let p = reply-same x y a b t.1 in
      let sent : Asked ps who.host x k.asks = subst (λ n. Asked ps who.host n k.asks) (sym p.0) (subst (λ h. Asked ps h y k.asks) (sym t.0) k.sent) in
      let below = (m.asked x k.asks k.who sent k.by).inc in
      let same : inc_of a ≡ k.who.inc = ap inc_of p.1 ∙ k.inc in
      omega arith
  later x a (said_error host y e is) = let t = told-same who.host host (reply x a) (error y e) is in absurd (cc)
  later x a (said_notice y row is) = let t = told-same who.host row.who.host (reply x a) (call y (Request.Evicted row.who row.file row.tag)) is in absurd (cc)

  before : (x : ℕ) (a : Reply) → In ps (to_host who.host (reply x a)) ⊎ In sends (to_host who.host (reply x a)) → inc_of a ≤ who.inc
  before x a (inl there) = m.past x a there
  before x a (inr new) = later x a (said (to_host who.host (reply x a)) new)

  told : (x : ℕ) (a : Reply) → inc_of a ≡ who.inc → In ps (to_host who.host (reply x a)) ⊎ In sends (to_host who.host (reply x a)) → IsReplied xid ticket x a
  told x a i (inl there) = m.replied x a there i
  told x a i (inr new) = fresh x a i (said (to_host who.host (reply x a)) new)

-- packets from another host keep the mail of a client
pub other-mail : {who : Who} {xid : ℕ} {ticket : Option Ticket} {ps : List Packet} (host : ℕ) (sends : List Message) → (who.host ≡ host → ⊥)
    → Mail who xid ticket ps → Mail who xid ticket (packets_with ps host sends)
other-mail {who = who} {xid = xid} {ticket = ticket} {ps = ps} host sends apart m = record {
  asked = λ x r w sent by. m.asked x r w (old x r (in-append ps (map (from_host host) sends) (from_host who.host (call x r)) sent)) by;
  replied = λ x a sent i. m.replied x a (told x a (in-append ps (map (from_host host) sends) (to_host who.host (reply x a)) sent)) i;
  past = λ x a sent. m.past x a (told x a (in-append ps (map (from_host host) sends) (to_host who.host (reply x a)) sent));
  own =
      λ t e. let k = m.own t e in record
      { number = k.number; asks = k.asks; sent = in-left ps (map (from_host host) sends) (from_host who.host (call t.xid t.request)) k.sent };
} where
  theirs : (ms : List Message) (x : ℕ) (r : Request) → In (map (from_host host) ms) (from_host who.host (call x r)) → ⊥
  theirs [] x r h = h
  theirs (n ∷ ms) x r (inl e) = apart (sym (message-same host who.host n (call x r) e).0)
  theirs (n ∷ ms) x r (inr h) = theirs ms x r h

  no-reply : (ms : List Message) (x : ℕ) (a : Reply) → In (map (from_host host) ms) (to_host who.host (reply x a)) → ⊥
  no-reply [] x a h = h
  no-reply (n ∷ ms) x a (inl e) = not-both host who.host n (reply x a) e
  no-reply (n ∷ ms) x a (inr h) = no-reply ms x a h

  old : (x : ℕ) (r : Request) → In ps (from_host who.host (call x r)) ⊎ In (map (from_host host) sends) (from_host who.host (call x r))
      → In ps (from_host who.host (call x r))
  old x r (inl there) = there
  old x r (inr new) = absurd (theirs sends x r new)

  told : (x : ℕ) (a : Reply) → In ps (to_host who.host (reply x a)) ⊎ In (map (from_host host) sends) (to_host who.host (reply x a))
      → In ps (to_host who.host (reply x a))
  told x a (inl there) = there
  told x a (inr new) = absurd (no-reply sends x a new)
