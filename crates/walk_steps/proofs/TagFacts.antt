-- The tags that a client and its mail know: each was drawn, and what was given up is past.
use Rattle.std.proofs.Common.{◌≡◌, ◌≢◌, ◌<◌, ◌≤◌, ◌⊎◌, ℕ, Bool, true, false, List, [], ◌∷◌, ◌++◌, Option, Some, None, if◌then◌else◌, refl, sym, subst}
use Rattle.std.proofs.Common.{ap, ◌∙◌, inl, inr}
use Rattle.nq_base.specs.declared.Grant.{Grant}
use Rattle.nq_base.specs.declared.Reply.{Reply}
use Rattle.nq_base.specs.declared.Request.{Request}
use Rattle.nq_base.specs.declared.Tag.{Tag}
use Rattle.nq_base.specs.declared.Who.{Who}
use Rattle.nq_model.proofs.ClientLists.{marked-before, marked-tag, lease-before-drop, lease-after-put, notice-before-drop, notice-after-put}
use Rattle.walk_steps.proofs.Packets.{In, in-last, Asked, Told, message-same, not-both, call-same}
use Rattle.nq_model.specs.protocol.Client.{Lease, Notice, Ticket, lease_on, drop_lease, put_lease, used_lease, notice_on, drop_notice}
use Rattle.nq_model.specs.protocol.Hear.{inc_of, noticed_tag, with_notice}
use Rattle.nq_model.specs.laws.LeaseInterval.{grant_in, requested_file}
use Rattle.nq_model.specs.protocol.Message.{Message, Packet, call, reply}
use Rattle.nq_model.specs.protocol.Server.{to_host}
use Rattle.nq_model.specs.protocol.Table.{tag_below, later_tag}
use Rattle.nq_model.specs.protocol.World.{from_host}

-- a tag was drawn by a boot up to this one, and in this one among the first so many
abbrev pub IsDrawn : (boot drawn : ℕ) → Tag → Type 0
IsDrawn boot drawn tag = (tag.boot < boot) ⊎ ((tag.boot ≡ boot) × (tag.number ≤ drawn))

-- the tags of a client and its mail
pub record TagsFit (who : Who) (ticket : Option Ticket) (leases : List Lease) (notices : List Notice) (boot drawn : ℕ) (ps : List Packet) : Type 0 where
  pub held : (file : ℕ) (l : Lease) → lease_on file leases ≡ Some l → IsDrawn boot drawn l.tag
  pub noticed : (file : ℕ) (n : Notice) → notice_on file notices ≡ Some n → IsDrawn boot drawn n.tag
  pub evicts : (x : ℕ) (w : Who) (file : ℕ) (tag : Tag) → Told ps who.host (call x (Request.Evicted w file tag)) → IsDrawn boot drawn tag
  pub vacates : (x : ℕ) (w : Who) (file : ℕ) (tag : Tag) → Asked ps who.host x (Request.Vacated w file tag) → IsDrawn boot drawn tag
  pub grants : (x : ℕ) (a : Reply) (g : Grant) → Told ps who.host (reply x a) → grant_in a ≡ Some g → IsDrawn boot drawn g.tag
  -- a tag that the running incarnation gave up is below the one that it holds on the file
  pub past_held : (x : ℕ) (w : Who) (file : ℕ) (tag : Tag) (l : Lease) → Asked ps who.host x (Request.Vacated w file tag) → w.inc ≡ who.inc
      → lease_on file leases ≡ Some l → tag_below tag l.tag ≡ true
  -- and below each that it can take
  pub past_given : (x : ℕ) (w : Who) (file : ℕ) (tag : Tag) (y : ℕ) (a : Reply) (g : Grant) (t : Ticket)
      → Asked ps who.host x (Request.Vacated w file tag) → w.inc ≡ who.inc → Told ps who.host (reply y a) → inc_of a ≡ who.inc → ticket ≡ Some t
      → t.xid ≡ y → requested_file t.request ≡ Some file → grant_in a ≡ Some g → tag_below tag g.tag ≡ true

-- what is told a host is not changed by what it asks
pub told-before : (ps : List Packet) (host h : ℕ) (m n : Message) → Told (ps ++ from_host host m ∷ []) h n → Told ps h n
told-before ps host h m n sent = step (in-last ps (from_host host m) (to_host h n) sent)
  where
    step : In ps (to_host h n) ⊎ (from_host host m ≡ to_host h n) → In ps (to_host h n)
    step (inl there) = there
    step (inr bad) = absurd (not-both host h m n bad)

-- what was asked before one more message, if it is another
pub asked-before : (ps : List Packet) (host x y : ℕ) (r s : Request) → Asked (ps ++ from_host host (call x r) ∷ []) host y s
    → Asked ps host y s ⊎ ((x ≡ y) × (r ≡ s))
asked-before ps host x y r s sent = step (in-last ps (from_host host (call x r)) (from_host host (call y s)) sent)
  where
    step : In ps (from_host host (call y s)) ⊎ (from_host host (call x r) ≡ from_host host (call y s)) → Asked ps host y s ⊎ ((x ≡ y) × (r ≡ s))
    step (inl there) = inl there
    step (inr new) = inr (call-same x y r s (message-same host host (call x r) (call y s) new).1)

-- leases may go, or be marked
pub tags-leases : {who : Who} {ticket : Option Ticket} {leases : List Lease} {notices : List Notice} {boot drawn : ℕ} {ps : List Packet}
    (less : List Lease) → ((file : ℕ) (l : Lease) → lease_on file less ≡ Some l → (m : Lease) × (lease_on file leases ≡ Some m) × (l.tag ≡ m.tag))
    → TagsFit who ticket leases notices boot drawn ps → TagsFit who ticket less notices boot drawn ps
tags-leases {boot = boot} {drawn = drawn} less from h = record {
  held = λ file l e. let m = from file l e in subst (λ t. IsDrawn boot drawn t) (sym m.2) (h.held file m.0 m.1);
  noticed = h.noticed;
  evicts = h.evicts;
  vacates = h.vacates;
  grants = h.grants;
  past_held = λ x w file tag l sent inc e. let m = from file l e in subst (λ t. tag_below tag t ≡ true) (sym m.2) (h.past_held x w file tag m.0 sent inc m.1);
  past_given = h.past_given;
}

pub used-from : (f : ℕ) (leases : List Lease) (file : ℕ) (l : Lease) → lease_on file (used_lease f leases) ≡ Some l → (m : Lease)
    × (lease_on file leases ≡ Some m) × (l.tag ≡ m.tag)
used-from f leases file l e = let m = marked-before file f leases l e in (m.before, m.found, ap (λ z. z.tag) m.same ∙ marked-tag f m.before)

pub dropped-from : (f : ℕ) (leases : List Lease) (file : ℕ) (l : Lease) → lease_on file (drop_lease f leases) ≡ Some l
    → (m : Lease) × (lease_on file leases ≡ Some m) × (l.tag ≡ m.tag)
dropped-from f leases file l e = (l, (lease-before-drop f file leases l e).1, refl)

-- another request is under way, of whose replies none is there yet, or the same, or none
pub tags-ticket : {who : Who} {ticket : Option Ticket} {leases : List Lease} {notices : List Notice} {boot drawn : ℕ} {ps : List Packet}
    (less : Option Ticket) → ((t : Ticket) → less ≡ Some t → (y : ℕ) (a : Reply) → Told ps who.host (reply y a) → inc_of a ≡ who.inc → t.xid ≡ y
    → (u : Ticket) × (ticket ≡ Some u) × (u.xid ≡ t.xid) × (u.request ≡ t.request)) → TagsFit who ticket leases notices boot drawn ps
    → TagsFit who less leases notices boot drawn ps
tags-ticket less from h = record {
  held = h.held;
  noticed = h.noticed;
  evicts = h.evicts;
  vacates = h.vacates;
  grants = h.grants;
  past_held = h.past_held;
  past_given =
      λ x w file tag y a g t sent inc told i e n on gives. let u = from t e y a told i n in
      h.past_given x w file tag y a g u.0 sent inc told i u.1 (u.2 ∙ n) (ap requested_file u.3 ∙ on) gives;
}

-- a message is sent that gives nothing up, or one that was sent before
pub tags-adds : {who : Who} {ticket : Option Ticket} {leases : List Lease} {notices : List Notice} {boot drawn : ℕ} {ps : List Packet} (xid : ℕ)
    (r : Request) → ((w : Who) (file : ℕ) (tag : Tag) → r ≡ Request.Vacated w file tag → Asked ps who.host xid r)
    → TagsFit who ticket leases notices boot drawn ps → TagsFit who ticket leases notices boot drawn (ps ++ from_host who.host (call xid r) ∷ [])
tags-adds {who = who} {ps = ps} xid r before h = record {
  held = h.held;
  noticed = h.noticed;
  evicts = λ x w file tag sent. h.evicts x w file tag (told-before ps who.host who.host (call xid r) (call x (Request.Evicted w file tag)) sent);
  vacates = λ x w file tag sent. h.vacates x w file tag (old x w file tag (asked-before ps who.host xid x r (Request.Vacated w file tag) sent));
  grants = λ x a g sent. h.grants x a g (told-before ps who.host who.host (call xid r) (reply x a) sent);
  past_held = λ x w file tag l sent. h.past_held x w file tag l (old x w file tag (asked-before ps who.host xid x r (Request.Vacated w file tag) sent));
  past_given =
      λ x w file tag y a g t sent inc told. h.past_given x w file tag y a g t
      (old x w file tag (asked-before ps who.host xid x r (Request.Vacated w file tag) sent)) inc
      (told-before ps who.host who.host (call xid r) (reply y a) told);
} where
  old : (x : ℕ) (w : Who) (file : ℕ) (tag : Tag) → Asked ps who.host x (Request.Vacated w file tag) ⊎ ((xid ≡ x) × (r ≡ Request.Vacated w file tag))
      → Asked ps who.host x (Request.Vacated w file tag)
  old x w file tag (inl there) = there
  old x w file tag (inr new) =
      subst (λ n. Asked ps who.host n (Request.Vacated w file tag)) new.0 (subst (λ q. Asked ps who.host xid q) new.1 (before w file tag new.1))

-- a lease is given up: nothing on the file is held any more, and no grant of it can be taken
pub tags-vacates : {who : Who} {ticket : Option Ticket} {leases : List Lease} {notices : List Notice} {boot drawn : ℕ} {ps : List Packet} (xid f : ℕ)
    (v : Tag) → IsDrawn boot drawn v
    → ((t : Ticket) (y : ℕ) (a : Reply) (g : Grant) → ticket ≡ Some t → Told ps who.host (reply y a) → inc_of a ≡ who.inc → t.xid ≡ y
    → requested_file t.request ≡ Some f → grant_in a ≡ Some g → ⊥) → TagsFit who ticket leases notices boot drawn ps
    → TagsFit who ticket (drop_lease f leases) (drop_notice f notices) boot drawn (ps ++ from_host who.host (call xid (Request.Vacated who f v)) ∷ [])
tags-vacates {who = who} {ticket = ticket} {leases = leases} {notices = notices} {boot = boot} {drawn = drawn} {ps = ps} xid f v is_drawn ungiven h = record {
  held = λ file l e. h.held file l (lease-before-drop f file leases l e).1;
  noticed = λ file n e. h.noticed file n (notice-before-drop f file notices n e).1;
  evicts = λ x w file tag sent. h.evicts x w file tag (told-before ps who.host who.host mine (call x (Request.Evicted w file tag)) sent);
  vacates = λ x w file tag sent. drawn-one x w file tag (asked-before ps who.host xid x (Request.Vacated who f v) (Request.Vacated w file tag) sent);
  grants = λ x a g sent. h.grants x a g (told-before ps who.host who.host mine (reply x a) sent);
  past_held =
      λ x w file tag l sent inc e. past x w file tag l (asked-before ps who.host xid x (Request.Vacated who f v) (Request.Vacated w file tag) sent) inc
      (lease-before-drop f file leases l e);
  past_given =
      λ x w file tag y a g t sent inc told i e n on gives. given x w file tag y a g t
      (asked-before ps who.host xid x (Request.Vacated who f v) (Request.Vacated w file tag) sent) inc
      (told-before ps who.host who.host mine (reply y a) told) i e n on gives;
} where
  mine : Message
  mine = call xid (Request.Vacated who f v)

  same-tag : (w w' : Who) (a b : ℕ) (s t : Tag) → Request.Vacated w a s ≡ Request.Vacated w' b t → (a ≡ b) × (s ≡ t)
  same-tag w w' a b s t e = (cc, cc)

  drawn-one : (x : ℕ) (w : Who) (file : ℕ) (tag : Tag)
      → Asked ps who.host x (Request.Vacated w file tag) ⊎ ((xid ≡ x) × (Request.Vacated who f v ≡ Request.Vacated w file tag)) → IsDrawn boot drawn tag
  drawn-one x w file tag (inl there) = h.vacates x w file tag there
  drawn-one x w file tag (inr new) = subst (λ t. IsDrawn boot drawn t) (same-tag who w f file v tag new.1).1 is_drawn

  past : (x : ℕ) (w : Who) (file : ℕ) (tag : Tag) (l : Lease)
      → Asked ps who.host x (Request.Vacated w file tag) ⊎ ((xid ≡ x) × (Request.Vacated who f v ≡ Request.Vacated w file tag)) → w.inc ≡ who.inc
      → (file ≢ f) × (lease_on file leases ≡ Some l) → tag_below tag l.tag ≡ true
  past x w file tag l (inl there) inc e = h.past_held x w file tag l there inc e.1
  past x w file tag l (inr new) inc e = absurd (e.0 (sym (same-tag who w f file v tag new.1).0))

  given : (x : ℕ) (w : Who) (file : ℕ) (tag : Tag) (y : ℕ) (a : Reply) (g : Grant) (t : Ticket)
      → Asked ps who.host x (Request.Vacated w file tag) ⊎ ((xid ≡ x) × (Request.Vacated who f v ≡ Request.Vacated w file tag)) → w.inc ≡ who.inc
      → Told ps who.host (reply y a) → inc_of a ≡ who.inc → ticket ≡ Some t → t.xid ≡ y → requested_file t.request ≡ Some file → grant_in a ≡ Some g
      → tag_below tag g.tag ≡ true
  given x w file tag y a g t (inl there) inc told i e n on gives = h.past_given x w file tag y a g t there inc told i e n on gives
  given x w file tag y a g t (inr new) inc told i e n on gives =
      absurd (ungiven t y a g e told i n (on ∙ ap Some (sym (same-tag who w f file v tag new.1).0)) gives)

-- a lease is held whose tag was drawn, and is above each that was given up
pub tags-holds : {who : Who} {ticket : Option Ticket} {leases : List Lease} {notices : List Notice} {boot drawn : ℕ} {ps : List Packet} (m : Lease)
    → IsDrawn boot drawn m.tag → ((x : ℕ) (w : Who) (tag : Tag) → Asked ps who.host x (Request.Vacated w m.file tag) → w.inc ≡ who.inc
    → tag_below tag m.tag ≡ true) → TagsFit who ticket leases notices boot drawn ps → TagsFit who ticket (put_lease m leases) notices boot drawn ps
tags-holds {who = who} {leases = leases} {boot = boot} {drawn = drawn} {ps = ps} m is_drawn above h = record {
  held = λ file l e. case file l (lease-after-put m file leases l e);
  noticed = h.noticed;
  evicts = h.evicts;
  vacates = h.vacates;
  grants = h.grants;
  past_held = λ x w file tag l sent inc e. past x w file tag l sent inc (lease-after-put m file leases l e);
  past_given = h.past_given;
} where
  case : (file : ℕ) (l : Lease) → ((file ≡ m.file) × (l ≡ m)) ⊎ ((file ≢ m.file) × (lease_on file leases ≡ Some l)) → IsDrawn boot drawn l.tag
  case file l (inl p) = subst (λ z. IsDrawn boot drawn z.tag) (sym p.1) is_drawn
  case file l (inr p) = h.held file l p.1

  past : (x : ℕ) (w : Who) (file : ℕ) (tag : Tag) (l : Lease) → Asked ps who.host x (Request.Vacated w file tag) → w.inc ≡ who.inc
      → ((file ≡ m.file) × (l ≡ m)) ⊎ ((file ≢ m.file) × (lease_on file leases ≡ Some l)) → tag_below tag l.tag ≡ true
  past x w file tag l sent inc (inl p) =
      subst (λ z. tag_below tag z.tag ≡ true) (sym p.1) (above x w tag (subst (λ f. Asked ps who.host x (Request.Vacated w f tag)) p.0 sent) inc)
  past x w file tag l sent inc (inr p) = h.past_held x w file tag l sent inc p.1

-- the later of two drawn tags was drawn
pub later-drawn : (boot drawn : ℕ) (a b : Tag) → IsDrawn boot drawn a → IsDrawn boot drawn b → IsDrawn boot drawn (later_tag a b)
later-drawn boot drawn a b x y = step (tag_below a b)
  where
    step : (c : Bool) → IsDrawn boot drawn (if c then b else a)
    step true = y
    step false = x

-- a notice waits
pub tags-notes : {who : Who} {ticket : Option Ticket} {leases : List Lease} {notices : List Notice} {boot drawn : ℕ} {ps : List Packet} (f : ℕ)
    (v : Tag) → IsDrawn boot drawn v → TagsFit who ticket leases notices boot drawn ps → TagsFit who ticket leases (with_notice f v notices) boot drawn ps
tags-notes {notices = notices} {boot = boot} {drawn = drawn} f v is_drawn h = record {
  held = h.held;
  noticed = λ file n e. case file n (notice-after-put (record { file = f; tag = noticed_tag v (notice_on f notices) }) file notices n e);
  evicts = h.evicts;
  vacates = h.vacates;
  grants = h.grants;
  past_held = h.past_held;
  past_given = h.past_given;
} where
  new : (o : Option Notice) → notice_on f notices ≡ o → IsDrawn boot drawn (noticed_tag v o)
  new None e = is_drawn
  new (Some n) e = later-drawn boot drawn n.tag v (h.noticed f n e) is_drawn

  case : (file : ℕ) (n : Notice) → ((file ≡ f) × (n ≡ record { file = f; tag = noticed_tag v (notice_on f notices) }))
      ⊎ ((file ≢ f) × (notice_on file notices ≡ Some n)) → IsDrawn boot drawn n.tag
  case file n (inl p) = subst (λ z. IsDrawn boot drawn z.tag) (sym p.1) (new (notice_on f notices) refl)
  case file n (inr p) = h.noticed file n p.1
