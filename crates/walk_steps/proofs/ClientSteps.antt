-- What a client and the server know of each other is kept by each step of the client.
use Rattle.std.proofs.Common.{◌≡◌, ◌≤◌, ℕ, ◌+◌, ◌-◌, Bool, true, false, not, ◌&&◌, List, [], ◌∷◌, ◌++◌, Option, Some, None, refl, sym, subst, ap, ◌∙◌}
use Rattle.std.proofs.Common.{arith, inl, inr, append-nil}
use Rattle.std.proofs.lemmas.Bool.{and_parts, both_ways}
use Rattle.nq_base.specs.declared.Call.{Call}
use Rattle.nq_base.specs.declared.Event.{Event}
use Rattle.nq_base.specs.declared.Grant.{Grant}
use Rattle.nq_base.specs.declared.HostRow.{HostRow}
use Rattle.nq_base.specs.declared.Reply.{Reply}
use Rattle.nq_base.specs.declared.Request.{Request}
use Rattle.nq_base.specs.declared.Tag.{Tag}
use Rattle.nq_base.specs.declared.Who.{Who}
use Rattle.walk_steps.proofs.ClientCases.{core_of, Both}
use Rattle.walk_steps.proofs.ClientFacts.{Alone, IsLease, fits_job}
use Rattle.walk_steps.proofs.ClientKnows.{IsPending, Knows, Knowing, knowing-closed}
use Rattle.walk_steps.proofs.ClientMoves.{some-same, none-some}
use Rattle.walk_steps.proofs.ClientWalk.{Replying, reply-keeps, notice-keeps, call-keeps, tick-keeps}
use Rattle.walk_steps.proofs.Clocks.{same-cover}
use Rattle.walk_steps.proofs.CoverFacts.{IsCoveredWhile, IsTakeable, CoverFits, cover-ticket}
use Rattle.walk_steps.proofs.HostLine.{IsSettled, line-ticket}
use Rattle.walk_steps.proofs.Mail.{packets_with, spent-mail}
use Rattle.walk_steps.proofs.Packets.{Asked, Told, Mail}
use Rattle.walk_steps.proofs.Rows.{choice, same-number}
use Rattle.walk_steps.proofs.ServerKnows.{NoneHeard, NoneGiven}
use Rattle.walk_steps.proofs.TagFacts.{IsDrawn, tags-ticket}
use Rattle.walk_steps.proofs.Worlds.{Going, IsAt, begun-going, timed-going}
use Rattle.nq_model.specs.protocol.Client.{Client, ClientStep, begun, attaching, Lease, Notice, Ticket, lease_on}
use Rattle.nq_model.specs.protocol.ClientStep.{client_call, client_tick, at_time}
use Rattle.nq_model.specs.protocol.Hear.{inc_of, is_of_procedure, refusal_counts, is_reply_to, reply_counts, hear, hear_reply, hear_notice, hear_call, goes_on}
use Rattle.nq_model.specs.protocol.Hear.{replied, holds_later, evicted, cancels}
use Rattle.nq_model.specs.laws.LeaseInterval.{claim_of, IsCovered}
use Rattle.nq_model.specs.protocol.Message.{Message, Packet, call, reply, error, asker, sequence_of}
use Rattle.nq_model.specs.protocol.Server.{Server, standing}
use Rattle.nq_model.specs.protocol.Skew.{ticks_of}
use Rattle.nq_model.specs.protocol.Table.{same_who}

-- between the steps of a client
abbrev pub KnowsOf : HostRow → Server → List Event → Client → List Packet → Type 0
KnowsOf line s events c ps = Knows NoneHeard NoneGiven line s events c.who c.now c.attached c.ticket c.leases c.notices ps

-- ---- an event, and time that passes

-- what is covered while a lease runs stays so, since the moment at which it was asked for is past
pub cover-passes : {s : Server} {events : List Event} {who : Who} {now : ℕ} {ticket : Option Ticket} {leases : List Lease} {ps : List Packet}
    (e : Event) (later : ℕ) → now ≡ ticks_of who.host events → now ≤ later → ((file : ℕ) (l : Lease) → lease_on file leases ≡ Some l → IsLease now l)
    → ((t : Ticket) → ticket ≡ Some t → t.first ≤ now) → CoverFits s events who now ticket leases ps → CoverFits s (e ∷ events) who later ticket leases ps
cover-passes {s = s} {events = events} {who = who} {now = now} e later clock more leased asked h = record {
  held = λ file l is c runs.
      subst (λ n. IsCovered s s.phase (claim_of who file l.mode l.tag n))
      (sym (same-cover who.host (l.expiry - l.term) l.term e events (let k = leased file l is in let a = k.term in let b = k.past in omega arith)))
      (h.held file l is c (omega arith));
  held_short = h.held_short;
  given = λ file g t k c runs.
      subst (λ n. IsCovered s s.phase (claim_of who file g.mode g.tag n))
      (sym (same-cover who.host t.first g.term e events (let a = asked t k.asked in omega arith)))
      (h.given file g t k c (omega arith));
  given_short = h.given_short;
}

pub knows-passes : {line : HostRow} {s : Server} {events : List Event} {ps : List Packet} (e : Event) (later : ℕ) (c : Client)
    → c.now ≡ ticks_of c.who.host events → c.now ≤ later → Alone c → KnowsOf line s events c ps
    → Knows NoneHeard NoneGiven line s (e ∷ events) c.who later c.attached c.ticket c.leases c.notices ps
knows-passes e later c clock more a h = record {
  lined = h.lined;
  tagged = h.tagged;
  covered =
      cover-passes e later clock more a.asking.leased (λ t is. let k = a.asking.ticketed t is in let p = k.sent in let q = k.past in omega arith) h.covered;
  heard = λ file tag bad. absurd bad;
  pending = λ file g sent bad. absurd bad;
}

-- ---- before and after the parts of a step

knows-begins : {Heard : ℕ → Tag → Type 0} {Given : ℕ → Grant → ℕ → Type 0} {line : HostRow} {s : Server} {events : List Event} {who : Who} {now : ℕ}
    {attached : Bool} {ticket : Option Ticket} {leases : List Lease} {notices : List Notice} {ps : List Packet}
    → ((file : ℕ) (tag : Tag) → Heard file tag → (attached ≡ true) × IsDrawn (standing s).boot (standing s).drawn tag)
    → ((file : ℕ) (g : Grant) (sent : ℕ) → Given file g sent → IsPending s events who now ps file g sent)
    → Knows NoneHeard NoneGiven line s events who now attached ticket leases notices ps
    → Knows Heard Given line s events who now attached ticket leases notices (ps ++ [])
knows-begins {Heard = Heard} {Given = Given} {line = line} {s = s} {events = events} {who = who} {now = now} {attached = attached} {ticket = ticket}
    {leases = leases} {notices = notices} {ps = ps} heard pending h =
    subst (λ qs. Knows Heard Given line s events who now attached ticket leases notices qs) (sym (append-nil ps))
    (record { lined = h.lined; tagged = h.tagged; covered = h.covered; heard = heard; pending = pending })

knows-ends : {Heard : ℕ → Tag → Type 0} {Given : ℕ → Grant → ℕ → Type 0} {line : HostRow} {s : Server} {events : List Event} {who : Who}
    {ps : List Packet} (host : ℕ) (t : ClientStep) → who.host ≡ host → Both (Knowing Heard Given line s events who ps) t
    → KnowsOf line s events t.client (packets_with ps host t.sends)
knows-ends {line = line} {s = s} {events = events} {ps = ps} host t here b =
    let h = b.core.knows in
    subst (λ n. KnowsOf line s events t.client (packets_with ps n t.sends)) (ap (λ w. w.host) b.core.going.same ∙ here)
    (record { lined = h.lined; tagged = h.tagged; covered = h.covered; heard = λ file tag bad. absurd bad; pending = λ file g sent bad. absurd bad })

-- ---- calls and ticks

pub call-knows : {line : HostRow} {s : Server} {events : List Event} (e : Event) (host : ℕ) (c : Client) (ps : List Packet) (op : Call)
    → c.now ≡ ticks_of c.who.host events → IsAt host c ps → KnowsOf line s events c ps
    → KnowsOf line s (e ∷ events) (client_call c op).client (packets_with ps host (client_call c op).sends)
call-knows {line = line} {s = s} {events = events} e host c ps op clock a h =
    knows-ends host (client_call c op) a.here
    (call-keeps (knowing-closed NoneHeard NoneGiven line s (e ∷ events) c.who ps) c op a.alone
    (record {
      going = begun-going host c ps a;
      knows = knows-begins (λ file tag bad. absurd bad) (λ file g sent bad. absurd bad)
          (knows-passes e c.now c clock (omega arith) a.alone h);
    }))

timed-knows : {Heard : ℕ → Tag → Type 0} {Given : ℕ → Grant → ℕ → Type 0} {line : HostRow} {s : Server} {events : List Event} (host : ℕ) (c : Client)
    (ps : List Packet) (later : ℕ) → IsAt host c ps → Knows Heard Given line s events c.who later c.attached c.ticket c.leases c.notices (ps ++ [])
    → Knowing Heard Given line s events c.who ps (core_of (begun (at_time c later)))
unfolding at_time
timed-knows host c ps later a h = record { going = timed-going host c ps later a; knows = h }

pub tick-knows : {line : HostRow} {s : Server} {events : List Event} (e : Event) (host : ℕ) (c : Client) (ps : List Packet)
    → c.now ≡ ticks_of c.who.host events → IsAt host c ps → KnowsOf line s events c ps
    → KnowsOf line s (e ∷ events) (client_tick c (c.now + 1)).client (packets_with ps host (client_tick c (c.now + 1)).sends)
tick-knows {line = line} {s = s} {events = events} e host c ps clock a h =
    knows-ends host (client_tick c (c.now + 1)) a.here
    (tick-keeps (knowing-closed NoneHeard NoneGiven line s (e ∷ events) c.who ps) c (c.now + 1) (omega arith) a.alone
    (timed-knows host c ps (c.now + 1) a
    (knows-begins (λ file tag bad. absurd bad) (λ file g sent bad. absurd bad) (knows-passes e (c.now + 1) c clock (omega arith) a.alone h))))

-- ---- a reply

-- an attaching request is ATTACH, and the reply to it that counts tells that the client is attached
attach-asked : (r : Request) (w : Who) → fits_job attaching r ≡ true → asker r ≡ Some w → r ≡ Request.Attach w
attach-asked (Request.Attach v) w fits by = ap Request.Attach (some-same v w by)
attach-asked other w fits by = absurd (cc)

of-attach : (r : Reply) (w : Who) → is_of_procedure r (Request.Attach w) ≡ true → r ≡ Reply.Attach (inc_of r)
of-attach (Reply.Attach inc) w h = refl
of-attach other w h = absurd (cc)

attach-replied : (r : Reply) (w : Who) (t : Ticket) → t.job ≡ attaching → t.request ≡ Request.Attach w → reply_counts r t ≡ true → r ≡ Reply.Attach (inc_of r)
attach-replied (Reply.Refused inc status) w t job asks counts =
    absurd (both_ways (refusal_counts status t.request t.job) (ap (λ j. refusal_counts status t.request j) job) counts)
attach-replied other w t job asks counts = of-attach other w (ap (λ q. is_of_procedure other q) (sym asks) ∙ counts)

-- the grants that a request may bring: those in the replies to it, with terms that count from its first sending
abbrev pub GivenTo : List Packet → Who → Ticket → ℕ → Grant → ℕ → Type 0
GivenTo ps who ticket file g sent = IsTakeable ps who (Some ticket) file g ticket × (sent ≡ ticket.first)

-- such a grant is pending
given-pending : {line : HostRow} {s : Server} {events : List Event} {who : Who} {now : ℕ} {attached : Bool} {ticket : Option Ticket}
    {leases : List Lease} {notices : List Notice} {ps : List Packet} (t : Ticket) → ticket ≡ Some t
    → Knows NoneHeard NoneGiven line s events who now attached ticket leases notices ps → (file : ℕ) (g : Grant) (sent : ℕ)
    → GivenTo ps who t file g sent → IsPending s events who now ps file g sent
given-pending {s = s} {events = events} {who = who} {now = now} {ticket = ticket} {ps = ps} t is h file g sent given =
    let k = given.0 in
    let take : IsTakeable ps who ticket file g t = record
    { x = k.x; a = k.a; told = k.told; inc = k.inc; asked = is; number = k.number; on_file = k.on_file; gives = k.gives } in
    record {
      drawn = h.tagged.grants k.x k.a g k.told k.gives;
      above = λ x w tag asked inc. h.tagged.past_given x w file tag k.x k.a g t asked inc k.told k.inc is k.number k.on_file k.gives;
      covered = λ c. subst (λ n. IsCoveredWhile s events who now file g.mode g.tag n g.term) (sym given.1) (h.covered.given file g t take c);
      short = h.covered.given_short file g t take;
    }

none-fewer : {ticket : Option Ticket} (t : Ticket) → None ≡ Some t → (u : Ticket) × (ticket ≡ Some u) × (u.xid ≡ t.xid) × (u.request ≡ t.request)
none-fewer t e = none-some t e

-- the request under way is spent by its reply: if it is one that is decided once, it was
knows-spent : {Heard : ℕ → Tag → Type 0} {Given : ℕ → Grant → ℕ → Type 0} {line : HostRow} {s : Server} {events : List Event} {who : Who} {now xid : ℕ}
    {attached : Bool} {ticket : Option Ticket} {leases : List Lease} {notices : List Notice} {ps : List Packet} (t : Ticket) (a : Reply)
    → ticket ≡ Some t → Told ps who.host (reply t.xid a) → inc_of a ≡ who.inc → Mail who xid ticket ps
    → Knows Heard Given line s events who now attached ticket leases notices ps → Knows Heard Given line s events who now attached None leases notices ps
knows-spent {line = line} {who = who} {ticket = ticket} {ps = ps} t a is told inc m h = record {
  lined = line-ticket None (λ u e. none-fewer u e) keeps h.lined;
  tagged = tags-ticket None (λ u e y b got i n. none-fewer u e) h.tagged;
  covered = cover-ticket None ps (λ file g u k. none-some u k.asked) h.covered;
  heard = h.heard;
  pending = h.pending;
} where
  keeps : (x n : ℕ) → line.inc ≡ who.inc → IsSettled ticket line.seq x n → (r : Request) (w : Who) → Asked ps who.host x r → asker r ≡ Some w
      → w.inc ≡ who.inc → sequence_of r ≡ Some n → IsSettled None line.seq x n
  keeps x n kept (inl below) r w sent by i seq = inl below
  keeps x n kept (inr u) r w sent by i seq =
      let one : u.0 ≡ t = some-same u.0 t (sym u.1 ∙ is) in
      let number : t.xid ≡ x = ap (λ z. z.xid) (sym one) ∙ u.2 in
      let same : t.request ≡ r = (m.asked x r w sent by).same i t is number in
      inl (h.lined.answered t.xid a told inc t is refl n (ap sequence_of same ∙ seq)).decided

-- the client is attached by the reply to its first request
knows-attached : {Heard : ℕ → Tag → Type 0} {Given : ℕ → Grant → ℕ → Type 0} {line : HostRow} {s : Server} {events : List Event} {who : Who} {now : ℕ}
    {attached : Bool} {ticket : Option Ticket} {leases : List Lease} {notices : List Notice} {ps : List Packet} (x : ℕ) → attached ≡ false
    → Told ps who.host (reply x (Reply.Attach who.inc)) → Knows Heard Given line s events who now attached ticket leases notices ps
    → Knows Heard Given line s events who now true None leases notices ps
knows-attached {line = line} {who = who} {ps = ps} x waits told h = record {
  lined = record {
    past = h.lined.past;
    current = λ e. h.lined.told x who.inc told refl;
    told = h.lined.told;
    above = h.lined.above;
    waiting = λ e. absurd (cc);
    unnoticed = λ e. absurd (cc);
    evicted_past = h.lined.evicted_past;
    unheard = λ e. absurd (cc);
    settled = λ kept y r w n sent by inc seq. none-some n (ap sequence_of (sym (h.lined.waiting waits y r w sent by inc)) ∙ seq);
    answered = λ y b got inc u e. none-some u e;
  };
  tagged = tags-ticket None (λ u e y b got i n. none-fewer u e) h.tagged;
  covered = cover-ticket None ps (λ file g u k. none-some u k.asked) h.covered;
  heard = λ file tag heard. (refl, (h.heard file tag heard).1);
  pending = h.pending;
}

replying-knows : {line : HostRow} {s : Server} {events : List Event} (host : ℕ) (c : Client) (ps : List Packet) (xid : ℕ) (r : Reply) (t : Ticket)
    → c.ticket ≡ Some t → reply_counts r t ≡ true → xid ≡ t.xid → inc_of r ≡ c.who.inc → Told ps c.who.host (reply xid r) → IsAt host c ps
    → KnowsOf line s events c ps → Replying (GivenTo ps c.who t) (Knowing NoneHeard (GivenTo ps c.who t) line s events c.who ps) c t r
replying-knows {line = line} {s = s} {events = events} host c ps xid r t is counts same inc sent a h = record {
  asked = is;
  counts = counts;
  alone = a.alone;
  spent = λ other. record { going = going; knows = knows-spent t r is told inc mail begun };
  attached =
      λ job. record {
        going = record { same = refl; mail = going.mail; calls = going.calls };
        knows = knows-attached t.xid
            (a.alone.asking.attaching t is job) (attach-told job) begun;
      };
  brings =
      λ file on g grants. (
        (record { x = t.xid; a = r; told = here; inc = inc; asked = refl; number = refl; on_file = on; gives = grants }, refl),
        (a.mail.replied xid r sent inc).wants t is (sym same) g grants file on,
      );
  only = λ file g at given. given.0.on_file;
} where
  here : Told ps c.who.host (reply t.xid r)
  here = subst (λ n. Told ps c.who.host (reply n r)) same sent

  told : Told (ps ++ []) c.who.host (reply t.xid r)
  told = subst (λ qs. Told qs c.who.host (reply t.xid r)) (sym (append-nil ps)) here

  mail : Mail c.who c.xid c.ticket (ps ++ [])
  mail = subst (λ qs. Mail c.who c.xid c.ticket qs) (sym (append-nil ps)) a.mail

  going : Going c.who ps (record (core_of (begun c)) { ticket = None })
  going = record { same = refl; mail = spent-mail (ps ++ []) c.who c.xid c.ticket mail; calls = λ m i. absurd i }

  begun : Knows NoneHeard (GivenTo ps c.who t) line s events c.who c.now c.attached c.ticket c.leases c.notices (ps ++ [])
  begun = knows-begins (λ file tag bad. absurd bad) (given-pending t is h) h

  attach-told : t.job ≡ attaching → Told (ps ++ []) c.who.host (reply t.xid (Reply.Attach c.who.inc))
  attach-told job =
      let k = a.alone.asking.ticketed t is in
      let asks : t.request ≡ Request.Attach c.who = attach-asked t.request c.who (subst (λ j. fits_job j t.request ≡ true) job k.fits) k.asks in
      subst (λ b. Told (ps ++ []) c.who.host (reply t.xid b)) (attach-replied r c.who t job asks counts ∙ ap Reply.Attach inc) told

-- a reply at a client, which may ignore it
abbrev pub KnowsIf : HostRow → Server → List Event → (host : ℕ) → List Packet → Option ClientStep → Type 0
KnowsIf line s events host ps None = Unit {0}
KnowsIf line s events host ps (Some t) = KnowsOf line s events t.client (packets_with ps host t.sends)

reply-knows : {line : HostRow} {s : Server} {events : List Event} (host : ℕ) (c : Client) (ps : List Packet) (number xid : ℕ) (r : Reply)
    (o : Option Ticket) → c.ticket ≡ o → Told ps host (reply xid r) → IsAt host c ps → KnowsOf line s events c ps
    → KnowsIf line s events host ps (hear_reply c number xid r o)
reply-knows host c ps number xid r None is sent a h = tt
reply-knows {line = line} {s = s} {events = events} host c ps number xid r (Some t) is sent a h =
    choice (KnowsIf line s events host ps) (is_reply_to c xid r t) (Some (goes_on (replied (begun c) number t r))) None
    (λ e.
    let k = and_parts _ _ e in
    let l = and_parts _ _ k.0 in
    let told : Told ps c.who.host (reply xid r) = subst (λ n. Told ps n (reply xid r)) (sym a.here) sent in
    knows-ends host (goes_on (replied (begun c) number t r)) a.here
    (reply-keeps (knowing-closed NoneHeard (GivenTo ps c.who t) line s events c.who ps) c number t r
    (replying-knows host c ps xid r t is k.1 (same-number _ _ l.0) (same-number _ _ l.1) told a h)))
    (λ e. tt)

-- ---- a notice

-- the one notice that is heard
abbrev pub IsNoticed : (file : ℕ) → Tag → ℕ → Tag → Type 0
IsNoticed file tag f v = (f ≡ file) × (v ≡ tag)

notice-attached : {line : HostRow} {s : Server} {events : List Event} {who : Who} {now : ℕ} {ticket : Option Ticket} {leases : List Lease}
    {notices : List Notice} {ps : List Packet} (x : ℕ) (w : Who) (file : ℕ) (tag : Tag) (b : Bool)
    → Told ps who.host (call x (Request.Evicted w file tag)) → w.inc ≡ who.inc
    → Knows NoneHeard NoneGiven line s events who now b ticket leases notices ps → b ≡ true
notice-attached x w file tag true sent inc h = refl
notice-attached x w file tag false sent inc h = absurd (h.lined.unheard refl x w file tag sent inc)

notice-knows : {line : HostRow} {s : Server} {events : List Event} (host : ℕ) (c : Client) (ps : List Packet) (x : ℕ) (w : Who) (file : ℕ) (tag : Tag)
    → Told ps host (call x (Request.Evicted w file tag)) → IsAt host c ps → KnowsOf line s events c ps
    → KnowsIf line s events host ps (hear_notice c w file tag)
notice-knows {line = line} {s = s} {events = events} host c ps x w file tag sent a h =
    choice (KnowsIf line s events host ps) (same_who w c.who && not (holds_later tag (lease_on file c.leases)))
    (Some (goes_on (evicted (cancels (begun c) file) file tag))) None
    (λ e.
    knows-ends host (goes_on (evicted (cancels (begun c) file) file tag)) a.here
    (notice-keeps (knowing-closed (IsNoticed file tag) NoneGiven line s events c.who ps) c file tag (refl, refl) (λ g at bad. bad) a.alone
    (record {
      going = begun-going host c ps a;
      knows = knows-begins (heard (same-number _ _ (and_parts _ _ (and_parts _ _ e).0).1))
          (λ f g at bad. absurd bad) h;
    })))
    (λ e. tt)
  where
    told : Told ps c.who.host (call x (Request.Evicted w file tag))
    told = subst (λ n. Told ps n (call x (Request.Evicted w file tag))) (sym a.here) sent

    heard : w.inc ≡ c.who.inc → (f : ℕ) (v : Tag) → IsNoticed file tag f v → (c.attached ≡ true) × IsDrawn (standing s).boot (standing s).drawn v
    heard inc f v same = (
      notice-attached x w file tag c.attached told inc h,
      subst (λ z. IsDrawn (standing s).boot (standing s).drawn z) (sym same.1)
          (h.tagged.evicts x w file tag told),
    )

-- ---- a datagram

called-knows : {line : HostRow} {s : Server} {events : List Event} (host : ℕ) (c : Client) (ps : List Packet) (x : ℕ) (r : Request)
    → Told ps host (call x r) → IsAt host c ps → KnowsOf line s events c ps → KnowsIf line s events host ps (hear_call c r)
called-knows host c ps x (Request.Evicted w file tag) sent a h = notice-knows host c ps x w file tag sent a h
called-knows host c ps x other sent a h = tt

hears : {line : HostRow} {s : Server} {events : List Event} (host : ℕ) (c : Client) (ps : List Packet) (number : ℕ) (m : Message) → Told ps host m
    → IsAt host c ps → KnowsOf line s events c ps → KnowsIf line s events host ps (hear c number m)
hears host c ps number (reply xid r) sent a h = reply-knows host c ps number xid r c.ticket refl sent a h
hears host c ps number (call xid r) sent a h = called-knows host c ps xid r sent a h
hears host c ps number (error xid er) sent a h = tt

pub hear-knows : {line : HostRow} {s : Server} {events : List Event} (e : Event) (host : ℕ) (c : Client) (ps : List Packet) (number : ℕ) (m : Message)
    → c.now ≡ ticks_of c.who.host events → Told ps host m → IsAt host c ps → KnowsOf line s events c ps
    → KnowsIf line s (e ∷ events) host ps (hear c number m)
hear-knows e host c ps number m clock sent a h = hears host c ps number m sent a (knows-passes e c.now c clock (omega arith) a.alone h)
