-- Reads are legal: each block is one register.
use Rattle.std.specs.Prelude.{◌≡◌, ℕ, List, Option, Some, ⊤}
use Rattle.nq_base.specs.declared.Entry.{Entry}
use Rattle.nq_base.specs.declared.Entry.TheVariants.{R, A}
use Rattle.nq_base.specs.declared.Said.{Said}
use Rattle.nq_base.specs.declared.Said.TheVariants.{OkValue, OkBy}
use Rattle.nq_base.specs.declared.Told.{Told}
use Rattle.nq_base.specs.declared.Told.TheVariants.{Read, Fetch}
use Rattle.nq_base.specs.declared.Who.{Who}
use Rattle.nq_model.specs.laws.Journal.{Exists, AtMostOne, Throughout, IsReadBy, IsCounted, call_of}
use Rattle.nq_model.specs.laws.Stands.{IsStandingValue}

-- the call is a `read` or a `fetch`
abbrev pub IsReading : Option Told → Type 0
IsReading (Some (Read file block)) = ⊤
IsReading (Some (Fetch file block)) = ⊤
IsReading other = ⊥

-- the answer is ok with a value
abbrev pub GivesValue : (value : ℕ) → Said → Type 0
GivesValue value (OkValue v) = v ≡ value
GivesValue value (OkBy v packet) = v ≡ value
GivesValue value other = ⊥

-- the entry is an A of call q that says ok with a value
abbrev pub IsAnswerWith : (who : Who) (q value : ℕ) → Entry → Type 0
IsAnswerWith who q value (A by n said) = (by ≡ who) × (n ≡ q) × GivesValue value said
IsAnswerWith who q value other = ⊥

-- the entry is a counted read by call q
abbrev pub IsCountedBy : (whole : List Entry) (who : Who) (q : ℕ) (entry : Entry) → Type 0
IsCountedBy whole who q entry = IsReadBy who q entry × IsCounted whole entry

-- the entry is a counted read by call q, of a value
abbrev pub IsCountedWith : (whole : List Entry) (who : Who) (q value : ℕ) → Entry → Type 0
IsCountedWith whole who q value (R by n file block v served) = (v ≡ value) × IsCountedBy whole who q (R by n file block v served)
IsCountedWith whole who q value other = ⊥

-- a counted read gives the value that stands for it, and an A of its call, a `read` or `fetch`, says ok with that value
pub record IsLegalRead (whole before : List Entry) (who : Who) (q file block value : ℕ) : Type 0 where
  pub standing : IsStandingValue whole before who file block value
  pub call : IsReading (call_of whole who q)
  pub answer : Exists (IsAnswerWith who q value) whole

-- an A that says ok with a value to a `read` or `fetch` has exactly one counted read of that call, with that value
pub record IsLegalAnswer (whole : List Entry) (who : Who) (q value : ℕ) : Type 0 where
  pub read : Exists (IsCountedWith whole who q value) whole
  pub only : AtMostOne (IsCountedBy whole who q) whole

-- what is asked of reads and of answers to them, at their place in a journal
abbrev pub IsLegalAt : (whole : List Entry) → Entry → (before : List Entry) → Type 0
IsLegalAt whole (R who q file block value served) before = IsCounted whole (R who q file block value served) → IsLegalRead whole before who q file block value
IsLegalAt whole (A who q (OkValue value)) before = IsReading (call_of whole who q) → IsLegalAnswer whole who q value
IsLegalAt whole (A who q (OkBy value packet)) before = IsReading (call_of whole who q) → IsLegalAnswer whole who q value
IsLegalAt whole other before = ⊤

-- a journal is legal: each counted read gives the value of the last write before it that stands for it, and reads and
-- the answers that say ok to them are one for one
abbrev pub IsLegal : (journal : List Entry) → Type 0
IsLegal journal = Throughout (IsLegalAt journal) journal
