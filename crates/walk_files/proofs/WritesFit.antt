-- What the journal has of the delayed writes of a client: of those in its list, of those under way, and of pushes that were sent.
use Rattle.std.proofs.Common.{◌≡◌, ◌<◌, ◌≤◌, ◌⊎◌, ℕ, false, Bool, List, [], ◌∷◌, Option, Some}
use Rattle.nq_base.specs.Block.{value_of}
use Rattle.nq_base.specs.declared.Entry.{Entry}
use Rattle.nq_base.specs.declared.Entry.TheVariants.{W, S, L}
use Rattle.nq_base.specs.declared.HostRow.{HostRow}
use Rattle.nq_base.specs.declared.Push.{Push}
use Rattle.nq_base.specs.declared.PushBase.{PushBase}
use Rattle.nq_base.specs.declared.Request.{Request}
use Rattle.nq_base.specs.declared.Verdict.{Verdict}
use Rattle.nq_base.specs.declared.Who.{Who}
use Rattle.walk_steps.proofs.ClientFacts.{IsPush}
use Rattle.nq_model.specs.protocol.Client.{Client, Ticket}
use Rattle.nq_model.specs.laws.Journal.{Exists, Covers, Throughout}
use Rattle.nq_model.specs.protocol.Message.{Packet, sequence_of}
use Rattle.walk_steps.proofs.Packets.{In, Asked}

-- ---- the journal

-- an S or L of the incarnation covers this number of the block
abbrev pub CoversNumber : (journal : List Entry) (who : Who) (file block n : ℕ) → Type 0
CoversNumber journal who file block n = Exists (λ e. Covers e (W who file block n 0 false)) journal

-- no number from first to last of the block is covered
abbrev pub IsClear : (journal : List Entry) (who : Who) (file block first last : ℕ) → Type 0
IsClear journal who file block first last = (n : ℕ) → first ≤ n → n ≤ last → CoversNumber journal who file block n → ⊥

-- an S or L covers no number that is covered before it, and an L has its first write
abbrev pub IsApart : Entry → (before : List Entry) → Type 0
IsApart (S who file block first last now) before = IsClear before who file block first last
IsApart (L who file block first last) before =
    IsClear before who file block first last × (first ≤ last) × ((value : ℕ) × In before (W who file block first value false))
IsApart other before = Unit {0}

-- the numbers of an incarnation's delayed writes rise with their place
abbrev pub IsRising : Entry → (before : List Entry) → Type 0
IsRising (W who file block number value false) before = (f b n v : ℕ) → In before (W who f b n v false) → n < number
IsRising other before = Unit {0}

-- delayed writes from first to last: both stand
abbrev pub HaveWrites : (before : List Entry) (who : Who) (file block first last : ℕ) → Type 0
HaveWrites before who file block first last =
    (first ≤ last)
    × ((value : ℕ) × In before (W who file block first value false))
    × ((value : ℕ) × In before (W who file block last value false))

-- an S or L comes after the first and the last write that it covers
abbrev pub IsOfWrites : Entry → (before : List Entry) → Type 0
IsOfWrites (S who file block first last now) before = HaveWrites before who file block first last
IsOfWrites (L who file block first last) before = HaveWrites before who file block first last
IsOfWrites other before = Unit {0}

pub record JournalFits (journal : List Entry) : Type 0 where
  pub apart : Throughout IsApart journal
  pub of_writes : Throughout IsOfWrites journal
  pub rising : Throughout IsRising journal

-- ---- delayed writes of a client

-- the writes of an unsaved entry stand in the journal
pub record IsBehind (who : Who) (journal : List Entry) (p : Push) : Type 0 where
  pub ordered : p.first ≤ p.last
  pub first_there : (value : ℕ) × In journal (W who p.file p.block p.first value false)
  pub last_there : In journal (W who p.file p.block p.last (value_of p.body) false)

-- a dirty entry: its writes stand, and each covered number of its block is below them
pub record IsDirty (who : Who) (number : ℕ) (journal : List Entry) (p : Push) : Type 0 where
  pub behind : IsBehind who journal p
  pub below : p.last < number
  pub above : (n : ℕ) → CoversNumber journal who p.file p.block n → n < p.first

-- the kept line of the host has decided the request of this incarnation and sequence, and with this verdict
pub record IsDecidedAs (line : HostRow) (who : Who) (seq : ℕ) (verdict : Verdict) : Type 0 where
  pub inc : line.inc ≡ who.inc
  pub decided : line.seq ≡ seq
  pub told : line.verdict ≡ verdict

-- the push under way: none of its numbers is covered, unless the kept line of its host decided it Done, and then its own S
-- stands
pub data PushStands (line : HostRow) (who : Who) (seq : ℕ) (journal : List Entry) (p : Push) : Type 0 where
  waits : (IsDecidedAs line who seq Verdict.Done → ⊥) → IsClear journal who p.file p.block p.first p.last → PushStands line who seq journal p
  stored : (now : ℕ) → IsDecidedAs line who seq Verdict.Done → In journal (S who p.file p.block p.first p.last now) → PushStands line who seq journal p

pub record IsPushed (line : HostRow) (who : Who) (number seq : ℕ) (journal : List Entry) (p : Push) : Type 0 where
  pub behind : IsBehind who journal p
  pub below : p.last < number
  pub stands : PushStands line who seq journal p

-- unsaved delayed writes of this block enclose a number
pub data LiesWithin (dirty : List Push) (push : Option Push) (file block n : ℕ) : Type 0 where
  in_list : (p : Push) → In dirty p → p.file ≡ file → p.block ≡ block → p.first ≤ n → n ≤ p.last → LiesWithin dirty push file block n
  under_way : (p : Push) → push ≡ Some p → p.file ≡ file → p.block ≡ block → p.first ≤ n → n ≤ p.last → LiesWithin dirty push file block n

-- no two of the list are of one block
abbrev pub AreApart : List Push → Type 0
AreApart [] = Unit {0}
AreApart (p ∷ ps) = ((q : Push) → In ps q → p.file ≡ q.file → p.block ≡ q.block → ⊥) × AreApart ps

-- the delayed writes of a client in its list
pub record ListFits (who : Who) (number : ℕ) (dirty : List Push) (push : Option Push) (journal : List Entry) : Type 0 where
  -- each dirty entry stands, above what is covered
  pub listed : (p : Push) → In dirty p → IsDirty who number journal p
  -- of one block there is one
  pub apart : AreApart dirty
  pub distinct : (p q : Push) → In dirty p → In dirty q → p.file ≡ q.file → p.block ≡ q.block → p ≡ q
  -- a push of the same block is of earlier writes
  pub earlier : (p q : Push) → push ≡ Some p → In dirty q → p.file ≡ q.file → p.block ≡ q.block → p.last < q.first
  -- and what is covered of its block is no later
  pub top : (p : Push) → push ≡ Some p → (n : ℕ) → CoversNumber journal who p.file p.block n → n ≤ p.last
  -- the numbers of its writes, and those that an S or L names, were drawn
  pub numbers : (file block n value : ℕ) (through : Bool) → In journal (W who file block n value through) → n < number
  pub covered : (file block n : ℕ) → CoversNumber journal who file block n → n < number
  -- each delayed write of it is covered, or within unsaved delayed writes of its block
  pub unsaved : (file block n value : ℕ) → In journal (W who file block n value false)
      → CoversNumber journal who file block n ⊎ LiesWithin dirty push file block n

-- a push packet of the incarnation that the kept line of its host names, above the kept sequence
pub record IsOpenPush (line : HostRow) (packets : List Packet) (host : ℕ) (w : Who) (p : Push) : Type 0 where
  pub xid : ℕ
  pub seq : ℕ
  pub base : PushBase
  pub home : w.host ≡ host
  pub asked : Asked packets host xid (Request.Write w seq p.file p.block p.first p.last (Some base) p.body)
  pub kept : line.inc ≡ w.inc
  pub above : line.seq < seq

-- the push packets of a client's host
pub record PushesFit (line : HostRow) (who : Who) (number : ℕ) (dirty : List Push) (packets : List Packet) (journal : List Entry) : Type 0 where
  -- an open push, of a running or ended incarnation: its writes stand, and none of its numbers is covered
  pub behind : (w : Who) (p : Push) → IsOpenPush line packets who.host w p → IsBehind w journal p
  pub clear : (w : Who) (p : Push) → IsOpenPush line packets who.host w p → IsClear journal w p.file p.block p.first p.last
  -- and what is covered of its block is before
  pub top : (w : Who) (p : Push) → IsOpenPush line packets who.host w p → (n : ℕ) → CoversNumber journal w p.file p.block n → n ≤ p.last
  -- the numbers of each WRITE of the running incarnation were drawn, and are below those of a dirty entry of the same block
  pub drawn : (x seq file block first last : ℕ) (push : Option PushBase) (body : List ℕ)
      → Asked packets who.host x (Request.Write who seq file block first last push body) → (first ≤ last) × (last < number)
  pub earlier : (x seq file block first last : ℕ) (base : PushBase) (body : List ℕ) (q : Push)
      → Asked packets who.host x (Request.Write who seq file block first last (Some base) body) → In dirty q → q.file ≡ file → q.block ≡ block
      → last < q.first

-- ---- a client

-- the delayed writes of a client, of which the kept line of its host, the packets and the journal are these
pub record Facts (line : HostRow) (who : Who) (number seq : ℕ) (ticket : Option Ticket) (dirty : List Push) (push : Option Push) (packets : List Packet)
    (journal : List Entry) : Type 0 where
  pub list : ListFits who number dirty push journal
  pub pushed : (p : Push) (t : Ticket) (n : ℕ) → push ≡ Some p → ticket ≡ Some t → sequence_of t.request ≡ Some n → IsPushed line who number n journal p
  pub sent : PushesFit line who number dirty packets journal
  -- the push under way is the request under way
  pub under_way : (p : Push) → push ≡ Some p → IsPush ticket p
  -- the kept sequence of the running incarnation was drawn
  pub drawn : line.inc ≡ who.inc → line.seq < seq
  -- no later incarnation of its host wrote, or has a write that is covered
  pub past : (w : Who) → w.host ≡ who.host → who.inc < w.inc → (file block n value : ℕ) (through : Bool) → In journal (W w file block n value through) → ⊥
  pub past_covers : (w : Who) → w.host ≡ who.host → who.inc < w.inc → (file block n : ℕ) → CoversNumber journal w file block n → ⊥

abbrev pub WritesFit : HostRow → Client → List Packet → List Entry → Type 0
WritesFit line c packets journal = Facts line c.who c.number c.seq c.ticket c.dirty c.push packets journal
