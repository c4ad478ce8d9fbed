-- What a client and the server know of each other, kept by each small change of the client.
use Rattle.std.proofs.Common.{◌≡◌, ◌⊎◌, ℕ, Bool, true, false, List, [], ◌∷◌, ◌++◌, Option, Some, None, refl, sym, subst, ap, ◌∙◌, arith, inl, inr}
use Rattle.std.proofs.lemmas.Bool.{both_ways}
use Rattle.nq_base.specs.declared.Event.{Event}
use Rattle.nq_base.specs.declared.Grant.{Grant}
use Rattle.nq_base.specs.declared.HostRow.{HostRow}
use Rattle.nq_base.specs.declared.Reply.{Reply}
use Rattle.nq_base.specs.declared.Request.{Request}
use Rattle.nq_base.specs.declared.Tag.{Tag}
use Rattle.nq_base.specs.declared.Who.{Who}
use Rattle.walk_steps.proofs.ClientCases.{Core, Closed, CanSend, CanVacate}
use Rattle.walk_steps.proofs.ClientFacts.{fits_job}
use Rattle.walk_steps.proofs.ClientMoves.{some-same, none-some, keeps-or-cancels}
use Rattle.walk_steps.proofs.CoverFacts.{IsCoveredWhile, IsShort, IsTakeable, CoverFits, cover-leases, cover-used, cover-dropped, cover-ticket, cover-holds}
use Rattle.walk_steps.proofs.HostLine.{LineFits, IsSettled, line-sends, line-adds, line-again, line-ticket}
use Rattle.walk_steps.proofs.Mail.{packets_with, packets-last}
use Rattle.walk_steps.proofs.Packets.{Asked, Told, Mail}
use Rattle.walk_steps.proofs.TagFacts.{IsDrawn, TagsFit, told-before, asked-before, tags-leases, used-from, dropped-from, tags-ticket, tags-adds}
use Rattle.walk_steps.proofs.TagFacts.{tags-vacates, tags-holds, tags-notes}
use Rattle.walk_steps.proofs.Worlds.{Going, going-closed}
use Rattle.nq_model.specs.protocol.Client.{Lease, Notice, Ticket, Job, drop_lease, put_lease, used_lease, notice_on, drop_notice}
use Rattle.nq_model.specs.protocol.Hear.{wants_of, inc_of, cancelled, granted_lease, with_notice}
use Rattle.nq_model.specs.laws.LeaseInterval.{requested_file}
use Rattle.nq_model.specs.protocol.Message.{Packet, call, reply, asker, sequence_of}
use Rattle.nq_model.specs.protocol.Server.{Server, standing}
use Rattle.nq_model.specs.protocol.Table.{caches, tag_below}
use Rattle.nq_model.specs.protocol.World.{from_host}

-- a grant that a client is about to take
pub record IsPending (s : Server) (events : List Event) (who : Who) (now : ℕ) (ps : List Packet) (file : ℕ) (g : Grant) (sent : ℕ) : Type 0 where
  pub drawn : IsDrawn (standing s).boot (standing s).drawn g.tag
  pub above : (x : ℕ) (w : Who) (tag : Tag) → Asked ps who.host x (Request.Vacated w file tag) → w.inc ≡ who.inc → tag_below tag g.tag ≡ true
  pub covered : caches g.mode ≡ true → IsCoveredWhile s events who now file g.mode g.tag sent g.term
  pub short : caches g.mode ≡ true → IsShort s g.tag g.term

-- what a client, the server and the packets know of each other
pub record Knows (Heard : ℕ → Tag → Type 0) (Given : ℕ → Grant → ℕ → Type 0) (line : HostRow) (s : Server) (events : List Event) (who : Who) (now : ℕ)
    (attached : Bool) (ticket : Option Ticket) (leases : List Lease) (notices : List Notice) (ps : List Packet) : Type 0 where
  pub lined : LineFits who attached ticket notices line ps
  pub tagged : TagsFit who ticket leases notices (standing s).boot (standing s).drawn ps
  pub covered : CoverFits s events who now ticket leases ps
  pub heard : (file : ℕ) (tag : Tag) → Heard file tag → (attached ≡ true) × IsDrawn (standing s).boot (standing s).drawn tag
  pub pending : (file : ℕ) (g : Grant) (sent : ℕ) → Given file g sent → IsPending s events who now ps file g sent

-- a pending grant stays so after a message that gives nothing up on its file
pending-adds : {s : Server} {events : List Event} {who : Who} {now : ℕ} {ps : List Packet} {file : ℕ} {g : Grant} {sent : ℕ} (xid : ℕ) (r : Request)
    → ((w : Who) (tag : Tag) → r ≡ Request.Vacated w file tag → Asked ps who.host xid r) → IsPending s events who now ps file g sent
    → IsPending s events who now (ps ++ from_host who.host (call xid r) ∷ []) file g sent
pending-adds {who = who} {ps = ps} {file = file} xid r before h = record {
  drawn = h.drawn;
  above = λ x w tag asked. h.above x w tag (old x w tag (asked-before ps who.host xid x r (Request.Vacated w file tag) asked));
  covered = h.covered;
  short = h.short;
} where
  old : (x : ℕ) (w : Who) (tag : Tag) → Asked ps who.host x (Request.Vacated w file tag) ⊎ ((xid ≡ x) × (r ≡ Request.Vacated w file tag))
      → Asked ps who.host x (Request.Vacated w file tag)
  old x w tag (inl there) = there
  old x w tag (inr new) = subst (λ n. Asked ps who.host n (Request.Vacated w file tag)) new.0 (subst (λ q. Asked ps who.host xid q) new.1 (before w tag new.1))

-- a request is sent, and is under way
pub knows-sends : {Heard : ℕ → Tag → Type 0} {Given : ℕ → Grant → ℕ → Type 0} {line : HostRow} {s : Server} {events : List Event} {who : Who} {now : ℕ}
    {attached : Bool} {leases : List Lease} {notices : List Notice} {ps : List Packet} (xid : ℕ) (t : Ticket) → t.xid ≡ xid → attached ≡ true
    → asker t.request ≡ Some who → ((w : Who) (file : ℕ) (tag : Tag) → t.request ≡ Request.Vacated w file tag → ⊥) → Mail who xid None ps
    → Knows Heard Given line s events who now attached None leases notices ps
    → Knows Heard Given line s events who now attached (Some t) leases notices (ps ++ from_host who.host (call xid t.request) ∷ [])
knows-sends {who = who} {ps = ps} xid t numbered is_attached asks no_vacated m h = record {
  lined = line-sends xid t numbered is_attached asks m h.lined;
  tagged =
      tags-adds xid t.request (λ w file tag e. absurd (no_vacated w file tag e))
      (tags-ticket (Some t) (λ u e y a told i n. absurd (unanswered u e y a told i n)) h.tagged);
  covered =
      cover-ticket (Some t) (ps ++ from_host who.host (call xid t.request) ∷ [])
      (λ file g u k. absurd (unanswered u k.asked k.x k.a (told-before ps who.host who.host (call xid t.request) (reply k.x k.a) k.told) k.inc
      k.number)) h.covered;
  heard = h.heard;
  pending = λ file g sent given. pending-adds xid t.request (λ w tag e. absurd (no_vacated w file tag e)) (h.pending file g sent given);
} where
  unanswered : (u : Ticket) → Some t ≡ Some u → (y : ℕ) (a : Reply) → Told ps who.host (reply y a) → inc_of a ≡ who.inc → u.xid ≡ y → ⊥
  unanswered u e y a told i n =
      let fresh = (m.replied y a told i).number in
      let one : t ≡ u = some-same t u e in
      let number : t.xid ≡ y = ap (λ z. z.xid) one ∙ n in
      omega arith

-- a lease is given up
pub knows-vacates : {Heard : ℕ → Tag → Type 0} {Given : ℕ → Grant → ℕ → Type 0} {line : HostRow} {s : Server} {events : List Event} {who : Who}
    {now : ℕ} {attached : Bool} {ticket : Option Ticket} {leases : List Lease} {notices : List Notice} {ps : List Packet} (xid f : ℕ) (v : Tag)
    → attached ≡ true → IsDrawn (standing s).boot (standing s).drawn v → ((t : Ticket) → ticket ≡ Some t → wants_of f t.request ≡ false)
    → ((g : Grant) (sent : ℕ) → Given f g sent → ⊥) → Mail who xid ticket ps → Knows Heard Given line s events who now attached ticket leases notices ps
    → Knows Heard Given line s events who now attached ticket (drop_lease f leases) (drop_notice f notices)
    (ps ++ from_host who.host (call xid (Request.Vacated who f v)) ∷ [])
knows-vacates {Given = Given} {line = line} {who = who} {attached = attached} {ticket = ticket} {leases = leases} {notices = notices} {ps = ps} xid f v
    is_attached is_drawn unwanted ungiven m h = record {
      lined = renoticed (line-adds xid (Request.Vacated who f v) is_attached refl refl h.lined);
      tagged =
          tags-vacates xid f v is_drawn (λ t y a g e told i n on gives. not-wanted t (unwanted t e) ((m.replied y a told i).wants t e n g gives f on))
          h.tagged;
      covered =
          cover-leases (drop_lease f leases) (cover-dropped f leases)
          (cover-ticket ticket (ps ++ from_host who.host (call xid (Request.Vacated who f v)) ∷ [])
          (λ file g t k. (
            t,
            record {
              x = k.x;
              a = k.a;
              told = told-before ps who.host who.host (call xid (Request.Vacated who f v)) (reply k.x k.a) k.told;
              inc = k.inc;
              asked = k.asked;
              number = k.number;
              on_file = k.on_file;
              gives = k.gives;
            },
            refl,
          )) h.covered);
      heard = h.heard;
      pending = λ file g sent given. pending-adds xid (Request.Vacated who f v) (λ w tag e. absurd (other file g sent given w tag e))
          (h.pending file g sent given);
    } where
      not-wanted : (t : Ticket) → wants_of f t.request ≡ false → wants_of f t.request ≡ true → ⊥
      not-wanted t a b = absurd (cc)

      same-file : (w : Who) (a b : ℕ) (x y : Tag) → Request.Vacated who a x ≡ Request.Vacated w b y → a ≡ b
      same-file w a b x y e = cc

      other : (file : ℕ) (g : Grant) (sent : ℕ) → Given file g sent → (w : Who) (tag : Tag) → Request.Vacated who f v ≡ Request.Vacated w file tag → ⊥
      other file g sent given w tag e = ungiven g sent (subst (λ n. Given n g sent) (sym (same-file w f file v tag e)) given)

      renoticed : {qs : List Packet} → LineFits who attached ticket notices line qs → LineFits who attached ticket (drop_notice f notices) line qs
      renoticed l =
          record {
            past = l.past;
            current = l.current;
            told = l.told;
            above = l.above;
            waiting = l.waiting;
            unnoticed = λ e. ap (drop_notice f)
                (l.unnoticed e);
            evicted_past = l.evicted_past;
            unheard = l.unheard;
            settled = l.settled;
            answered = l.answered;
          }

-- the request under way is sent again
pub knows-again : {Heard : ℕ → Tag → Type 0} {Given : ℕ → Grant → ℕ → Type 0} {line : HostRow} {s : Server} {events : List Event} {who : Who} {now : ℕ}
    {attached : Bool} {leases : List Lease} {notices : List Notice} {ps : List Packet} (t : Ticket) → Asked ps who.host t.xid t.request
    → Knows Heard Given line s events who now attached (Some t) leases notices ps
    → Knows Heard Given line s events who now attached (Some (record t { last = now })) leases notices
    (ps ++ from_host who.host (call t.xid t.request) ∷ [])
knows-again {line = line} {who = who} {now = now} {ps = ps} t sent h = record {
  lined = line-ticket (Some again) few keeps (line-again (from_host who.host (call t.xid t.request)) sent h.lined);
  tagged = tags-adds t.xid t.request (λ w file tag e. sent) (tags-ticket (Some again) (λ u e y a told i n. few u e) h.tagged);
  covered = cover-ticket (Some again) (ps ++ from_host who.host (call t.xid t.request) ∷ []) (λ file g u k. from file g u k) h.covered;
  heard = h.heard;
  pending = λ file g at given. pending-adds t.xid t.request (λ w tag e. sent) (h.pending file g at given);
} where
  again : Ticket
  again = record t { last = now }

  few : (u : Ticket) → Some again ≡ Some u → (v : Ticket) × (Some t ≡ Some v) × (v.xid ≡ u.xid) × (v.request ≡ u.request)
  few u e = let one : again ≡ u = some-same again u e in (t, refl, ap (λ z. z.xid) one, ap (λ z. z.request) one)

  keeps : (x n : ℕ) → line.inc ≡ who.inc → IsSettled (Some t) line.seq x n → (r : Request) (w : Who)
      → Asked (ps ++ from_host who.host (call t.xid t.request) ∷ []) who.host x r → asker r ≡ Some w → w.inc ≡ who.inc → sequence_of r ≡ Some n
      → IsSettled (Some again) line.seq x n
  keeps x n kept (inl below) r w a by inc seq = inl below
  keeps x n kept (inr u) r w a by inc seq = inr (again, refl, ap (λ z. z.xid) (some-same t u.0 u.1) ∙ u.2)

  from : (file : ℕ) (g : Grant) (u : Ticket) → IsTakeable (ps ++ from_host who.host (call t.xid t.request) ∷ []) who (Some again) file g u
      → (v : Ticket) × IsTakeable ps who (Some t) file g v × (v.first ≡ u.first)
  from file g u k =
      let one : again ≡ u = some-same again u k.asked in (
        t,
        record {
          x = k.x;
          a = k.a;
          told = told-before ps who.host who.host (call t.xid t.request) (reply k.x k.a) k.told;
          inc = k.inc;
          asked = refl;
          number = ap (λ z. z.xid) one ∙ k.number;
          on_file = ap (λ z. requested_file z.request) one ∙ k.on_file;
          gives = k.gives;
        },
        ap (λ z. z.first) one,
      )

-- a request that wants a lease on a file is cancelled
seq-wants-none : (f : ℕ) (r : Request) (n : ℕ) → sequence_of r ≡ Some n → wants_of f r ≡ false
seq-wants-none f (Request.Create w seq name blocks) n e = refl
seq-wants-none f (Request.Write w seq file block first last push body) n e = refl
seq-wants-none f (Request.Resize w seq q file blocks) n e = refl
seq-wants-none f (Request.Remove w seq q file) n e = refl
seq-wants-none f r n e = none-some n e

pub knows-cancels : {Heard : ℕ → Tag → Type 0} {Given : ℕ → Grant → ℕ → Type 0} {line : HostRow} {s : Server} {events : List Event} {who : Who}
    {now xid : ℕ} {attached : Bool} {ticket : Option Ticket} {leases : List Lease} {notices : List Notice} {ps : List Packet} (f : ℕ)
    → Mail who xid ticket ps → Knows Heard Given line s events who now attached ticket leases notices ps
    → Knows Heard Given line s events who now attached (cancelled f ticket) leases notices ps
knows-cancels {line = line} {who = who} {ticket = ticket} {ps = ps} f m h = record {
  lined = line-ticket (cancelled f ticket) few keeps h.lined;
  tagged = tags-ticket (cancelled f ticket) (λ u e y a told i n. few u e) h.tagged;
  covered =
      cover-ticket (cancelled f ticket) ps
      (λ file g u k. (
        u,
        record {
          x = k.x;
          a = k.a;
          told = k.told;
          inc = k.inc;
          asked = (keeps-or-cancels f ticket u k.asked).0;
          number = k.number;
          on_file = k.on_file;
          gives = k.gives;
        },
        refl,
      )) h.covered;
  heard = h.heard;
  pending = h.pending;
} where
  few : (u : Ticket) → cancelled f ticket ≡ Some u → (v : Ticket) × (ticket ≡ Some v) × (v.xid ≡ u.xid) × (v.request ≡ u.request)
  few u e = (u, (keeps-or-cancels f ticket u e).0, refl, refl)

  stays : (u : Ticket) → ticket ≡ Some u → wants_of f u.request ≡ false → cancelled f ticket ≡ Some u
  stays u e spared = rw (e, spared) refl

  keeps : (x n : ℕ) → line.inc ≡ who.inc → IsSettled ticket line.seq x n → (r : Request) (w : Who) → Asked ps who.host x r → asker r ≡ Some w
      → w.inc ≡ who.inc → sequence_of r ≡ Some n → IsSettled (cancelled f ticket) line.seq x n
  keeps x n kept (inl below) r w a by inc seq = inl below
  keeps x n kept (inr u) r w a by inc seq =
      let same : u.0.request ≡ r = (m.asked x r w a by).same inc u.0 u.1 u.2 in
      inr (u.0, stays u.0 u.1 (seq-wants-none f u.0.request n (ap sequence_of same ∙ seq)), u.2)

-- a notice waits
pub knows-notes : {Heard : ℕ → Tag → Type 0} {Given : ℕ → Grant → ℕ → Type 0} {line : HostRow} {s : Server} {events : List Event} {who : Who} {now : ℕ}
    {attached : Bool} {ticket : Option Ticket} {leases : List Lease} {notices : List Notice} {ps : List Packet} (f : ℕ) (v : Tag) → Heard f v
    → Knows Heard Given line s events who now attached ticket leases notices ps
    → Knows Heard Given line s events who now attached ticket leases (with_notice f v notices) ps
knows-notes {attached = attached} f v heard h = record {
  lined =
      let l = h.lined in
      record {
        past = l.past;
        current = l.current;
        told = l.told;
        above = l.above;
        waiting = l.waiting;
        unnoticed = λ e. absurd
            (both_ways attached e (h.heard f v heard).0);
        evicted_past = l.evicted_past;
        unheard = l.unheard;
        settled = l.settled;
        answered = l.answered;
      };
  tagged = tags-notes f v (h.heard f v heard).1 h.tagged;
  covered = h.covered;
  heard = h.heard;
  pending = h.pending;
}

-- a lease is held that was pending
pub knows-holds : {Heard : ℕ → Tag → Type 0} {Given : ℕ → Grant → ℕ → Type 0} {line : HostRow} {s : Server} {events : List Event} {who : Who} {now : ℕ}
    {attached : Bool} {ticket : Option Ticket} {leases : List Lease} {notices : List Notice} {ps : List Packet} (f : ℕ) (g : Grant) (sent : ℕ)
    → Given f g sent → Knows Heard Given line s events who now attached ticket leases notices ps
    → Knows Heard Given line s events who now attached ticket (put_lease (granted_lease f g sent) leases) notices ps
unfolding granted_lease
knows-holds {s = s} {events = events} {who = who} {now = now} f g sent given h =
    let p = h.pending f g sent given in
    record {
      lined = h.lined;
      tagged = tags-holds (granted_lease f g sent) p.drawn p.above h.tagged;
      covered =
          cover-holds (granted_lease f g sent) (λ c. subst (λ n. IsCoveredWhile s events who now f g.mode g.tag n g.term) (omega arith) (p.covered c))
          p.short h.covered;
      heard = h.heard;
      pending = h.pending;
    }

-- leases may go, or be marked as used
pub knows-uses : {Heard : ℕ → Tag → Type 0} {Given : ℕ → Grant → ℕ → Type 0} {line : HostRow} {s : Server} {events : List Event} {who : Who} {now : ℕ}
    {attached : Bool} {ticket : Option Ticket} {leases : List Lease} {notices : List Notice} {ps : List Packet} (f : ℕ)
    → Knows Heard Given line s events who now attached ticket leases notices ps
    → Knows Heard Given line s events who now attached ticket (used_lease f leases) notices ps
knows-uses {leases = leases} f h =
    record {
      lined = h.lined;
      tagged = tags-leases (used_lease f leases) (used-from f leases) h.tagged;
      covered = cover-leases (used_lease f leases)
          (cover-used f leases) h.covered;
      heard = h.heard;
      pending = h.pending;
    }

pub knows-drops : {Heard : ℕ → Tag → Type 0} {Given : ℕ → Grant → ℕ → Type 0} {line : HostRow} {s : Server} {events : List Event} {who : Who} {now : ℕ}
    {attached : Bool} {ticket : Option Ticket} {leases : List Lease} {notices : List Notice} {ps : List Packet} (f : ℕ)
    → Knows Heard Given line s events who now attached ticket leases notices ps
    → Knows Heard Given line s events who now attached ticket (drop_lease f leases) notices ps
knows-drops {leases = leases} f h =
    record {
      lined = h.lined;
      tagged = tags-leases (drop_lease f leases) (dropped-from f leases) h.tagged;
      covered = cover-leases (drop_lease f leases)
          (cover-dropped f leases) h.covered;
      heard = h.heard;
      pending = h.pending;
    }

-- ---- in the middle of a step

-- what is kept in the middle of a client's step: its mail, and what it and the server know of each other
pub record Knowing (Heard : ℕ → Tag → Type 0) (Given : ℕ → Grant → ℕ → Type 0) (line : HostRow) (s : Server) (events : List Event) (who : Who)
    (ps : List Packet) (k : Core) : Type 0 where
  pub going : Going who ps k
  pub knows : Knows Heard Given line s events k.who k.now k.attached k.ticket k.leases k.notices (packets_with ps k.who.host k.sends)

module _ (Heard : ℕ → Tag → Type 0) (Given : ℕ → Grant → ℕ → Type 0) (line : HostRow) (s : Server) (events : List Event) (who : Who) (ps : List Packet) where
  going : Closed Heard Given (Going who ps)
  going = going-closed who ps Heard Given

  sends-mid : (k : Core) (job : Job) (request : Request) → ((w : Who) (file : ℕ) (tag : Tag) → request ≡ Request.Vacated w file tag → ⊥)
      → CanSend k job request → Knowing Heard Given line s events who ps k
      → Knows Heard Given line s events k.who k.now k.attached
      (Some (record { xid = k.xid; first = k.now; last = k.now; request = request; job = job })) k.leases k.notices
      (packets_with ps k.who.host (k.sends ++ call k.xid request ∷ []))
  sends-mid k job request no_vacated can h =
      let t : Ticket = record { xid = k.xid; first = k.now; last = k.now; request = request; job = job } in
      subst (λ qs. Knows Heard Given line s events k.who k.now k.attached (Some t) k.leases k.notices qs)
      (sym (packets-last ps k.who.host k.sends (call k.xid request)))
      (knows-sends k.xid t refl can.attached can.asks no_vacated
      (subst (λ o. Mail k.who k.xid o (packets_with ps k.who.host k.sends)) can.free h.going.mail)
      (subst (λ o. Knows Heard Given line s events k.who k.now k.attached o k.leases k.notices (packets_with ps k.who.host k.sends)) can.free h.knows))

  -- the notice that a lease is given up for comes only to an attached client, and its tag was drawn
  vacating : (k : Core) (file : ℕ) (tag : Tag) → CanVacate Heard Given k file tag → Knowing Heard Given line s events who ps k
      → (k.attached ≡ true) × IsDrawn (standing s).boot (standing s).drawn tag
  vacating k file tag can h = case can.source
    where
      attached : (b : Bool) → k.attached ≡ b → (n : Notice) → notice_on file k.notices ≡ Some n → k.attached ≡ true
      attached true e n is = e
      attached false e n is = none-some n (sym (ap (notice_on file) (h.knows.lined.unnoticed e)) ∙ is)

      case : ((n : Notice) × (notice_on file k.notices ≡ Some n) × (tag ≡ n.tag)) ⊎ Heard file tag
          → (k.attached ≡ true) × IsDrawn (standing s).boot (standing s).drawn tag
      case (inl n) =
          (attached k.attached refl n.0 n.1, subst (λ t. IsDrawn (standing s).boot (standing s).drawn t) (sym n.2) (h.knows.tagged.noticed file n.0 n.1))
      case (inr heard) = h.knows.heard file tag heard

  vacates-mid : (k : Core) (file : ℕ) (tag : Tag) → CanVacate Heard Given k file tag → Knowing Heard Given line s events who ps k
      → Knows Heard Given line s events k.who k.now k.attached k.ticket (drop_lease file k.leases) (drop_notice file k.notices)
      (packets_with ps k.who.host (k.sends ++ call k.xid (Request.Vacated k.who file tag) ∷ []))
  vacates-mid k file tag can h =
      let v = vacating k file tag can h in
      subst (λ qs. Knows Heard Given line s events k.who k.now k.attached k.ticket (drop_lease file k.leases) (drop_notice file k.notices) qs)
      (sym (packets-last ps k.who.host k.sends (call k.xid (Request.Vacated k.who file tag))))
      (knows-vacates k.xid file tag v.0 v.1 can.unwanted can.ungiven h.going.mail h.knows)

  again-mid : (k : Core) (t : Ticket) → k.ticket ≡ Some t → Knowing Heard Given line s events who ps k
      → Knows Heard Given line s events k.who k.now k.attached (Some (record t { last = k.now })) k.leases k.notices
      (packets_with ps k.who.host (k.sends ++ call t.xid t.request ∷ []))
  again-mid k t is h =
      subst (λ qs. Knows Heard Given line s events k.who k.now k.attached (Some (record t { last = k.now })) k.leases k.notices qs)
      (sym (packets-last ps k.who.host k.sends (call t.xid t.request)))
      (knows-again t (h.going.mail.own t is).sent
      (subst (λ o. Knows Heard Given line s events k.who k.now k.attached o k.leases k.notices (packets_with ps k.who.host k.sends)) is h.knows))

  plain-no-vacated : (k : Core) (job : Job) (request : Request) → CanSend k job request → (w : Who) (file : ℕ) (tag : Tag)
      → request ≡ Request.Vacated w file tag → ⊥
  plain-no-vacated k job request can w file tag e = fits-no job (ap (fits_job job) (sym e) ∙ can.fits)
    where
      fits-no : (j : Job) → fits_job j (Request.Vacated w file tag) ≡ true → ⊥
      fits-no Job.attaching f = absurd (cc)
      fits-no Job.for_call f = absurd (cc)
      fits-no Job.renewing f = absurd (cc)
      fits-no Job.pushing f = absurd (cc)

  -- each small change of a client keeps it
  pub knowing-closed : Closed Heard Given (Knowing Heard Given line s events who ps)
  knowing-closed = record {
    uses = λ k file h. record { going = going.uses k file h.going; knows = knows-uses file h.knows };
    drops = λ k file h. record { going = going.drops k file h.going; knows = knows-drops file h.knows };
    vacates = λ k file tag can h. record { going = going.vacates k file tag can h.going; knows = vacates-mid k file tag can h };
    asks =
        λ k job request no_seq can h. record
        { going = going.asks k job request no_seq can h.going; knows = sends-mid k job request (plain-no-vacated k job request can) can h };
    decides =
        λ k job request seq can h. record
        { going = going.decides k job request seq can h.going; knows = sends-mid k job request (plain-no-vacated k job request can) can h };
    again = λ k t is h. record { going = going.again k t is h.going; knows = again-mid k t is h };
    holds =
        λ k file g sent given free unnoticed h. record
        { going = going.holds k file g sent given free unnoticed h.going; knows = knows-holds file g sent given h.knows };
    cancels = λ k file h. record { going = going.cancels k file h.going; knows = knows-cancels file h.going.mail h.knows };
    notes = λ k file tag heard h. record { going = going.notes k file tag heard h.going; knows = knows-notes file tag heard h.knows };
  }
