-- Who hopes: a client with an open call that does not pause, and will not hear that its request is put off, but for a request that a notice
-- cancels before. And what becomes of the rows in the way of a call.
use Rattle.std.proofs.Common.{◌≡◌, ◌≢◌, ◌≤◌, ◌⊎◌, ℕ, ◌++◌, Bool, true, false, List, [], ◌∷◌, Option, Some, None, refl, sym, ap, ◌∙◌, inl, inr}
use Rattle.std.specs.Prelude.{slice_get}
use Rattle.nq_base.specs.declared.Access.{Access}
use Rattle.nq_base.specs.declared.Call.{Call}
use Rattle.nq_base.specs.declared.Mode.{Mode}
use Rattle.nq_base.specs.declared.Refusal.{Refusal}
use Rattle.nq_base.specs.declared.Reply.{Reply}
use Rattle.nq_base.specs.declared.Request.{Request}
use Rattle.nq_base.specs.declared.Row.{Row}
use Rattle.nq_base.specs.declared.Tag.{Tag}
use Rattle.nq_model.specs.protocol.Ask.{mode_conflicts}
use Rattle.nq_model.specs.protocol.Client.{Client, Notice, Ticket, UnderWay, lease_on, notice_on}
use Rattle.nq_model.specs.protocol.Hear.{holds_later, is_put_off, refusal_counts, wants_of}
use Rattle.nq_model.specs.protocol.Message.{Packet, call, reply}
use Rattle.nq_model.specs.protocol.Server.{to_host}
use Rattle.nq_model.specs.protocol.Table.{caches, is_writing, find_row}
use Rattle.nq_model.specs.protocol.World.{from_host}
use Rattle.walk_steps.proofs.Packets.{In}

-- ---- calls

-- the file that a call reads or changes
abbrev pub file_of_call : Call → Option ℕ
file_of_call (Call.Read file block) = Some file
file_of_call (Call.Fetch file block) = Some file
file_of_call (Call.Write file block body) = Some file
file_of_call (Call.Put file block body) = Some file
file_of_call (Call.Resize file blocks) = Some file
file_of_call (Call.Remove file) = Some file
file_of_call other = None

-- what it is about to do with it
abbrev pub access_of_call : Call → Access
access_of_call (Call.Read file block) = Access.Read
access_of_call (Call.Fetch file block) = Access.Read
access_of_call other = Access.Write

pub conflict-caches : (a : Access) (m : Mode) → mode_conflicts a m ≡ true → caches m ≡ true
conflict-caches Access.Read Mode.NonCaching e = cc
conflict-caches Access.Read Mode.Reading e = refl
conflict-caches Access.Read Mode.Writing e = refl
conflict-caches Access.Write m e = e

-- ---- what is under way to a client

-- a notice cancels the request under way
pub record Cancels (h : ℕ) (c : Client) (t : Ticket) (y : Packet) : Type 0 where
  pub number : ℕ
  pub file : ℕ
  pub tag : Tag
  pub is : y ≡ to_host h (call number (Request.Evicted c.who file tag))
  pub wants : wants_of file t.request ≡ true
  pub heard : holds_later tag (lease_on file c.leases) ≡ false

-- a reply puts the request under way off
pub record PutsOff (h : ℕ) (c : Client) (t : Ticket) (y : Packet) : Type 0 where
  pub status : Refusal
  pub is : y ≡ to_host h (reply t.xid (Reply.Refused c.who.inc status))
  pub off : is_put_off status ≡ true
  pub counts : refusal_counts status t.request t.job ≡ true

-- none does, but behind a notice that cancels the request
abbrev pub Safe : ℕ → Client → Ticket → List Packet → Type 0
Safe h c t [] = Unit {0}
Safe h c t (y ∷ ys) = Cancels h c t y ⊎ ((PutsOff h c t y → ⊥) × Safe h c t ys)

-- the client of a host hopes
pub record Hopeful (clients : List Client) (q : List Packet) (h : ℕ) : Type 0 where
  pub client : Client
  pub under : UnderWay
  pub at : slice_get clients h ≡ Some client
  pub opened : client.call ≡ Some under
  pub unpaused : client.pause ≤ client.now
  pub safe : (t : Ticket) → client.ticket ≡ Some t → Safe h client t q

-- a call may want a row of this kind: a `read` of the file does, and a `write` where the row is a writing one
pub data IsWished (u : UnderWay) (f : ℕ) (mode : Mode) : Type 0 where
  by_read : (block : ℕ) → u.call ≡ Call.Read f block → IsWished u f mode
  by_write : (block : ℕ) (body : List ℕ) → u.call ≡ Call.Write f block body → is_writing mode ≡ true → IsWished u f mode

-- the holder of a row hopes, and its call may want such a row
pub record Hoped (clients : List Client) (q : List Packet) (f h : ℕ) (row : Row) : Type 0 where
  pub hope : Hopeful clients q h
  pub wished : IsWished hope.under f row.mode

-- a row goes: its notice is under way, or waits, or the VACATED is under way
pub data Goes (clients : List Client) (q : List Packet) (f h : ℕ) (row : Row) : Type 0 where
  told : (number : ℕ) → In q (to_host h (call number (Request.Evicted row.who f row.tag))) → Goes clients q f h row
  waits : (c : Client) (n : Notice) → slice_get clients h ≡ Some c → notice_on f c.notices ≡ Some n → n.tag ≡ row.tag → Goes clients q f h row
  vacated : (number : ℕ) → In q (from_host h (call number (Request.Vacated row.who f row.tag))) → Goes clients q f h row

-- a row passes: it is hoped; or, where that is allowed, it is to go, and goes
pub data Passes (going : Bool) (clients : List Client) (q : List Packet) (f h : ℕ) (row : Row) : Type 0 where
  goes : going ≡ true → row.evicting ≡ true → Goes clients q f h row → Passes going clients q f h row
  hoped : Hoped clients q f h row → Passes going clients q f h row

-- a row of another host conflicts with what a host does
pub record InWay (rows : List Row) (a f : ℕ) (access : Access) (h : ℕ) (row : Row) : Type 0 where
  pub found : find_row f h rows ≡ Some row
  pub other : h ≢ a
  pub conflicts : mode_conflicts access row.mode ≡ true

-- each row in the way of a host's open call passes
abbrev pub Clear : Bool → List Row → List Client → List Packet → ℕ → Type 0
Clear going rows clients q a =
    (c : Client) (u : UnderWay) (f : ℕ)
    → slice_get clients a ≡ Some c
    → c.call ≡ Some u
    → file_of_call u.call ≡ Some f
    → (h : ℕ) (row : Row)
    → InWay rows a f (access_of_call u.call) h row
    → Passes going clients q f h row

-- ---- safe queues

pub safe-rest : (h : ℕ) (c : Client) (t : Ticket) (y : Packet) (ys : List Packet) → (Cancels h c t y → ⊥) → Safe h c t (y ∷ ys) → Safe h c t ys
safe-rest h c t y ys not (inl k) = absurd (not k)
safe-rest h c t y ys not (inr s) = s.1

pub safe-append : (h : ℕ) (c : Client) (t : Ticket) (ys more : List Packet) → Safe h c t ys → Safe h c t more → Safe h c t (ys ++ more)
safe-append h c t [] more s m = m
safe-append h c t (y ∷ ys) more (inl k) m = inl k
safe-append h c t (y ∷ ys) more (inr s) m = inr (s.0, safe-append h c t ys more s.1 m)

pub safe-none : (h : ℕ) (c : Client) (t : Ticket) (ys : List Packet) → ((y : Packet) → In ys y → PutsOff h c t y → ⊥) → Safe h c t ys
safe-none h c t [] never = tt
safe-none h c t (y ∷ ys) never = inr (never y (inl refl), safe-none h c t ys (λ z i. never z (inr i)))

-- what a client with fewer leases has
pub safe-fewer : (h : ℕ) (c d : Client) (t : Ticket) (ys : List Packet) → d.who ≡ c.who → ((f : ℕ) (tag : Tag) → wants_of f t.request ≡ true
    → holds_later tag (lease_on f c.leases) ≡ false → holds_later tag (lease_on f d.leases) ≡ false) → Safe h c t ys → Safe h d t ys
safe-fewer h c d t [] who less s = tt
safe-fewer h c d t (y ∷ ys) who less (inl k) = inl (record {
  number = k.number;
  file = k.file;
  tag = k.tag;
  is = k.is ∙ ap (λ w. to_host h (call k.number (Request.Evicted w k.file k.tag))) (sym who);
  wants = k.wants;
  heard = less k.file k.tag k.wants k.heard;
})
safe-fewer h c d t (y ∷ ys) who less (inr s) = inr (never, safe-fewer h c d t ys who less s.1)
  where
    never : PutsOff h d t y → ⊥
    never o = s.0 (record {
      status = o.status;
      is = o.is ∙ ap (λ w. to_host h (reply t.xid (Reply.Refused w.inc o.status))) who;
      off = o.off;
      counts =
          o.counts;
    })
