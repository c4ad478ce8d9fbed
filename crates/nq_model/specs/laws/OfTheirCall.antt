-- Counted reads are of what their call asked for.
use Rattle.std.specs.Prelude.{◌≡◌, ℕ, List, Option, Some, ⊤}
use Rattle.nq_base.specs.declared.Entry.{Entry}
use Rattle.nq_base.specs.declared.Entry.TheVariants.{R}
use Rattle.nq_base.specs.declared.Told.{Told}
use Rattle.nq_base.specs.declared.Told.TheVariants.{Read, Fetch}
use Rattle.nq_model.specs.laws.Journal.{Each, IsCounted, call_of}

-- the call is a `read` or `fetch` of this block
abbrev pub Reads : (file block : ℕ) → Option Told → Type 0
Reads file block (Some (Read f b)) = (f ≡ file) × (b ≡ block)
Reads file block (Some (Fetch f b)) = (f ≡ file) × (b ≡ block)
Reads file block other = ⊥

-- a counted read is of the file and block of its call
abbrev pub IsOfItsCall : (whole : List Entry) → Entry → Type 0
IsOfItsCall whole (R who q file block value served) = IsCounted whole (R who q file block value served) → Reads file block (call_of whole who q)
IsOfItsCall whole other = ⊤

-- the counted reads of a journal are of their calls
abbrev pub AreOfTheirCall : (journal : List Entry) → Type 0
AreOfTheirCall journal = Each (IsOfItsCall journal) journal
