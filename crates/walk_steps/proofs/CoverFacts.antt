-- The leases of a client, and the grants that it can take, are covered by the server while they run.
use Rattle.std.proofs.Common.{◌≡◌, ◌≢◌, ◌<◌, ◌≤◌, ◌⊎◌, ℕ, ◌+◌, ◌-◌, true, List, Option, Some, refl, sym, subst, ap, ◌∙◌, arith, inl, inr}
use Rattle.nq_base.specs.declared.Event.{Event}
use Rattle.nq_base.specs.declared.Grant.{Grant}
use Rattle.nq_base.specs.declared.Mode.{Mode}
use Rattle.nq_base.specs.declared.Reply.{Reply}
use Rattle.nq_base.specs.declared.Tag.{Tag}
use Rattle.nq_base.specs.declared.Who.{Who}
use Rattle.nq_model.proofs.ClientLists.{marked-before, marked-tag, marked-mode, marked-term, marked-expiry, lease-before-drop, lease-after-put}
use Rattle.walk_steps.proofs.Packets.{Told}
use Rattle.nq_model.specs.protocol.Client.{Lease, Ticket, lease_on, drop_lease, put_lease, used_lease}
use Rattle.nq_model.specs.protocol.Hear.{inc_of}
use Rattle.nq_model.specs.laws.LeaseInterval.{claim_of, IsCovered, cover_end, grant_in, requested_file}
use Rattle.nq_model.specs.protocol.Message.{Packet, reply}
use Rattle.nq_model.specs.protocol.Server.{Server}
use Rattle.nq_model.specs.protocol.Table.{caches}

-- a lease that was asked for at a time with a term is covered, while the holder's clock is below its end
abbrev pub IsCoveredWhile : Server → List Event → Who → (now file : ℕ) → Mode → Tag → (asked term : ℕ) → Type 0
IsCoveredWhile s events who now file mode tag asked term =
    now < asked + term → IsCovered s s.phase (claim_of who file mode tag (cover_end who.host asked term events))

-- and it is no longer than the kept longest term, if it is of the boot that served last
abbrev pub IsShort : Server → Tag → (term : ℕ) → Type 0
IsShort s tag term = tag.boot ≡ s.kept.opened → term ≤ s.kept.longest

-- a grant in a reply to the request under way
pub record IsTakeable (ps : List Packet) (who : Who) (ticket : Option Ticket) (file : ℕ) (g : Grant) (t : Ticket) : Type 0 where
  pub x : ℕ
  pub a : Reply
  pub told : Told ps who.host (reply x a)
  pub inc : inc_of a ≡ who.inc
  pub asked : ticket ≡ Some t
  pub number : t.xid ≡ x
  pub on_file : requested_file t.request ≡ Some file
  pub gives : grant_in a ≡ Some g

pub record CoverFits (s : Server) (events : List Event) (who : Who) (now : ℕ) (ticket : Option Ticket) (leases : List Lease) (ps : List Packet) : Type 0 where
  pub held : (file : ℕ) (l : Lease) → lease_on file leases ≡ Some l → caches l.mode ≡ true
      → IsCoveredWhile s events who now file l.mode l.tag (l.expiry - l.term) l.term
  pub held_short : (file : ℕ) (l : Lease) → lease_on file leases ≡ Some l → caches l.mode ≡ true → IsShort s l.tag l.term
  pub given : (file : ℕ) (g : Grant) (t : Ticket) → IsTakeable ps who ticket file g t → caches g.mode ≡ true
      → IsCoveredWhile s events who now file g.mode g.tag t.first g.term
  pub given_short : (file : ℕ) (g : Grant) (t : Ticket) → IsTakeable ps who ticket file g t → caches g.mode ≡ true → IsShort s g.tag g.term

-- leases may go, or be marked as used
pub cover-leases : {s : Server} {events : List Event} {who : Who} {now : ℕ} {ticket : Option Ticket} {leases : List Lease} {ps : List Packet}
    (less : List Lease) → ((file : ℕ) (l : Lease) → lease_on file less ≡ Some l
    → (m : Lease) × (lease_on file leases ≡ Some m) × (l.mode ≡ m.mode) × (l.tag ≡ m.tag) × (l.term ≡ m.term) × (l.expiry ≡ m.expiry))
    → CoverFits s events who now ticket leases ps → CoverFits s events who now ticket less ps
cover-leases {s = s} {events = events} {who = who} {now = now} less from h = record {
  held = λ file l e c.
      let m = from file l e in
      subst (λ mode. IsCoveredWhile s events who now file mode l.tag (l.expiry - l.term) l.term) (sym m.2)
      (subst (λ tag. IsCoveredWhile s events who now file m.0.mode tag (l.expiry - l.term) l.term) (sym m.3)
      (subst (λ term. IsCoveredWhile s events who now file m.0.mode m.0.tag (l.expiry - term) term) (sym m.4)
      (subst (λ expiry. IsCoveredWhile s events who now file m.0.mode m.0.tag (expiry - m.0.term) m.0.term) (sym m.5)
      (h.held file m.0 m.1 (ap caches (sym m.2) ∙ c)))));
  held_short =
      λ file l e c b. let m = from file l e in let short = h.held_short file m.0 m.1 (ap caches (sym m.2) ∙ c) (ap (λ t. t.boot) (sym m.3) ∙ b) in
      let same = m.4 in omega arith;
  given = h.given;
  given_short = h.given_short;
}

pub cover-used : (f : ℕ) (leases : List Lease) (file : ℕ) (l : Lease) → lease_on file (used_lease f leases) ≡ Some l
    → (m : Lease) × (lease_on file leases ≡ Some m) × (l.mode ≡ m.mode) × (l.tag ≡ m.tag) × (l.term ≡ m.term) × (l.expiry ≡ m.expiry)
cover-used f leases file l e =
    let m = marked-before file f leases l e in (
      m.before,
      m.found,
      ap (λ z. z.mode) m.same ∙ marked-mode f m.before,
      ap (λ z. z.tag) m.same ∙ marked-tag f m.before,
      ap (λ z. z.term) m.same
          ∙ marked-term f m.before,
      ap (λ z. z.expiry) m.same ∙ marked-expiry f m.before,
    )

pub cover-dropped : (f : ℕ) (leases : List Lease) (file : ℕ) (l : Lease) → lease_on file (drop_lease f leases) ≡ Some l
    → (m : Lease) × (lease_on file leases ≡ Some m) × (l.mode ≡ m.mode) × (l.tag ≡ m.tag) × (l.term ≡ m.term) × (l.expiry ≡ m.expiry)
cover-dropped f leases file l e = (l, (lease-before-drop f file leases l e).1, refl, refl, refl, refl)

-- a grant can be taken where it could before
pub cover-ticket : {s : Server} {events : List Event} {who : Who} {now : ℕ} {ticket : Option Ticket} {leases : List Lease} {ps : List Packet}
    (less : Option Ticket) (qs : List Packet)
    → ((file : ℕ) (g : Grant) (t : Ticket) → IsTakeable qs who less file g t → (u : Ticket) × IsTakeable ps who ticket file g u × (u.first ≡ t.first))
    → CoverFits s events who now ticket leases ps → CoverFits s events who now less leases qs
cover-ticket {s = s} {events = events} {who = who} {now = now} less qs from h = record {
  held = h.held;
  held_short = h.held_short;
  given = λ file g t k c. let u = from file g t k in subst (λ n. IsCoveredWhile s events who now file g.mode g.tag n g.term) u.2 (h.given file g u.0 u.1 c);
  given_short = λ file g t k c. let u = from file g t k in h.given_short file g u.0 u.1 c;
}

-- a lease is held that was given
pub cover-holds : {s : Server} {events : List Event} {who : Who} {now : ℕ} {ticket : Option Ticket} {leases : List Lease} {ps : List Packet} (m : Lease)
    → (caches m.mode ≡ true → IsCoveredWhile s events who now m.file m.mode m.tag (m.expiry - m.term) m.term)
    → (caches m.mode ≡ true → IsShort s m.tag m.term) → CoverFits s events who now ticket leases ps
    → CoverFits s events who now ticket (put_lease m leases) ps
cover-holds {s = s} {events = events} {who = who} {now = now} {leases = leases} m covered short h = record {
  held = λ file l e. case file l (lease-after-put m file leases l e);
  held_short = λ file l e. case-short file l (lease-after-put m file leases l e);
  given = h.given;
  given_short = h.given_short;
} where
  case : (file : ℕ) (l : Lease) → ((file ≡ m.file) × (l ≡ m)) ⊎ ((file ≢ m.file) × (lease_on file leases ≡ Some l)) → caches l.mode ≡ true
      → IsCoveredWhile s events who now file l.mode l.tag (l.expiry - l.term) l.term
  case file l (inl p) c =
      subst (λ z. IsCoveredWhile s events who now file z.mode z.tag (z.expiry - z.term) z.term) (sym p.1)
      (subst (λ f. IsCoveredWhile s events who now f m.mode m.tag (m.expiry - m.term) m.term) (sym p.0) (covered (ap (λ z. caches z.mode) (sym p.1) ∙ c)))
  case file l (inr p) c = h.held file l p.1 c

  case-short : (file : ℕ) (l : Lease) → ((file ≡ m.file) × (l ≡ m)) ⊎ ((file ≢ m.file) × (lease_on file leases ≡ Some l)) → caches l.mode ≡ true
      → IsShort s l.tag l.term
  case-short file l (inl p) c = subst (λ z. IsShort s z.tag z.term) (sym p.1) (short (ap (λ z. caches z.mode) (sym p.1) ∙ c))
  case-short file l (inr p) c = h.held_short file l p.1 c
