-- Each ok has its deed, in every run: what an answer says was done was done by its call, and stands before the answer.
use Rattle.std.specs.Prelude.{◌≡◌, ℕ, List, Option, Some, None, ⊤}
use Rattle.nq_base.specs.declared.Entry.{Entry}
use Rattle.nq_base.specs.declared.Entry.TheVariants.{W, R, Z, A}
use Rattle.nq_base.specs.declared.Said.{Said}
use Rattle.nq_base.specs.declared.Said.TheVariants.{Ok, OkValue, OkBy}
use Rattle.nq_base.specs.declared.Told.{Told}
use Rattle.nq_base.specs.declared.Told.TheVariants.{Read, Fetch, Write, Put, Resize, Remove}
use Rattle.nq_base.specs.declared.Who.{Who}
use Rattle.nq_model.specs.laws.Bounds.{InEveryRun}
use Rattle.nq_model.specs.laws.Journal.{Exists, Throughout, Somewhere, IsOpen, call_of}
use Rattle.nq_model.specs.protocol.World.{run}

-- the entry is a W of call q of an incarnation: it was made while that call was open, and gives this block the value
abbrev pub IsWriteOfCall : (who : Who) (q file block value : ℕ) → Entry → (before : List Entry) → Type 0
IsWriteOfCall who q file block value (W by f b number v through) before = (by ≡ who) × (f ≡ file) × (b ≡ block) × (v ≡ value) × IsOpen before who q
IsWriteOfCall who q file block value other before = ⊥

-- the entry is an R of call q of an incarnation: it gives the value of this block, from the cache or as the server served it
abbrev pub IsReadOfCall : (who : Who) (q file block value : ℕ) (served : Option ℕ) → Entry → Type 0
IsReadOfCall who q file block value served (R by n f b v s) = (by ≡ who) × (n ≡ q) × (f ≡ file) × (b ≡ block) × (v ≡ value) × (s ≡ served)
IsReadOfCall who q file block value served other = ⊥

-- the entry is a Z of call q of an incarnation: it gives the file this length
abbrev pub IsResizeOfCall : (who : Who) (q file to : ℕ) → Entry → Type 0
IsResizeOfCall who q file to (Z by n f from blocks) = (by ≡ who) × (n ≡ q) × (f ≡ file) × (blocks ≡ to)
IsResizeOfCall who q file to other = ⊥

-- the deed of an ok stands before it: to a `write` or `put` a W of its call with that block and value; to a `resize` or `remove` a
-- Z with that length; to a `read` or `fetch` an R with that value, from the cache or in the packet that the answer names
abbrev pub HasDeed : (before : List Entry) (who : Who) (q : ℕ) → Said → Option Told → Type 0
HasDeed before who q Ok (Some (Write file block value)) = Somewhere (IsWriteOfCall who q file block value) before
HasDeed before who q Ok (Some (Put file block value)) = Somewhere (IsWriteOfCall who q file block value) before
HasDeed before who q Ok (Some (Resize file blocks)) = Exists (IsResizeOfCall who q file blocks) before
HasDeed before who q Ok (Some (Remove file)) = Exists (IsResizeOfCall who q file 0) before
HasDeed before who q (OkValue value) (Some (Read file block)) = Exists (IsReadOfCall who q file block value None) before
HasDeed before who q (OkValue value) (Some (Fetch file block)) = Exists (IsReadOfCall who q file block value None) before
HasDeed before who q (OkBy value packet) (Some (Read file block)) = Exists (IsReadOfCall who q file block value (Some packet)) before
HasDeed before who q (OkBy value packet) (Some (Fetch file block)) = Exists (IsReadOfCall who q file block value (Some packet)) before
HasDeed before who q said told = ⊤

-- what is asked of an A at its place
abbrev pub HasDeedAt : Entry → (before : List Entry) → Type 0
HasDeedAt (A who q said) before = HasDeed before who q said (call_of before who q)
HasDeedAt other before = ⊤

-- each ok of a journal has its deed
abbrev pub OksHaveTheirDeeds : (journal : List Entry) → Type 0
OksHaveTheirDeeds journal = Throughout HasDeedAt journal

-- after every schedule within skew
abbrev pub OksHaveTheirDeedsInEveryRun : Type 0
OksHaveTheirDeedsInEveryRun = InEveryRun (λ head events. OksHaveTheirDeeds (run head events).journal)
