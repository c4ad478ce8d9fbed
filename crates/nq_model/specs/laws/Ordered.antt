-- Each client's calls and what they make stand in order.
use Rattle.std.specs.Prelude.{◌≡◌, ◌<◌, ℕ, List, [], ◌∷◌, Option, Some, ⊤}
use Rattle.nq_base.specs.declared.Entry.{Entry}
use Rattle.nq_base.specs.declared.Entry.TheVariants.{C, W, R, Z, A}
use Rattle.nq_base.specs.declared.Said.TheVariants.{Busy}
use Rattle.nq_base.specs.declared.Told.{Told}
use Rattle.nq_base.specs.declared.Told.TheVariants.{Write, Put, Resize, Remove}
use Rattle.nq_base.specs.declared.Who.{Who}
use Rattle.nq_model.specs.laws.Journal.{Each, Exists, Throughout, AtEachPlace, IsCall, IsAnswer, IsOpen, call_of, IsCounted}
use Rattle.nq_model.specs.laws.Legal.{IsCountedBy}

-- ---- calls

-- where the entry is a C of the incarnation, its number is below q
abbrev pub IsCallBelow : (who : Who) (q : ℕ) → Entry → Type 0
IsCallBelow who q (C by n told) = by ≡ who → n < q
IsCallBelow who q other = ⊤

-- the entry is a C of the incarnation, and its call is open at a place
abbrev pub IsOpenCall : (before : List Entry) (who : Who) → Entry → Type 0
IsOpenCall before who (C by q told) = (by ≡ who) × IsOpen before who q
IsOpenCall before who other = ⊥

-- some call of the incarnation is open at a place
abbrev pub HasOpen : (before : List Entry) (who : Who) → Type 0
HasOpen before who = Exists (IsOpenCall before who) before

-- the next entry answers call q `busy`
abbrev pub IsBusyNext : (who : Who) (q : ℕ) → List Entry → Type 0
IsBusyNext who q (A by n Busy ∷ after) = (by ≡ who) × (n ≡ q)
IsBusyNext who q other = ⊥

-- a C stands in the order of numbers, and where it would be open together with an earlier call of its incarnation the
-- next entry answers it `busy`
pub record IsCallInOrder (after before : List Entry) (who : Who) (q : ℕ) : Type 0 where
  pub rises : Each (IsCallBelow who q) before
  pub alone : HasOpen before who → ¬ Exists (IsAnswer who q) before → IsBusyNext who q after

-- ---- writes

-- the call is a `write` or `put` of this value to this block
abbrev pub Writes : (file block value : ℕ) → Option Told → Type 0
Writes file block value (Some (Write f b v)) = (f ≡ file) × (b ≡ block) × (v ≡ value)
Writes file block value (Some (Put f b v)) = (f ≡ file) × (b ≡ block) × (v ≡ value)
Writes file block value other = ⊥

-- where the entry is a write of the incarnation, it stands before the C of call q
abbrev pub IsBeforeCall : (who : Who) (q : ℕ) → Entry → (before : List Entry) → Type 0
IsBeforeCall who q (W by file block number value through) before = by ≡ who → ¬ Exists (IsCall who q) before
IsBeforeCall who q other before = ⊤

-- the entry is the write of an incarnation with this number
abbrev pub IsNumbered : (who : Who) (number : ℕ) → Entry → Type 0
IsNumbered who number (W by file block n value through) = (by ≡ who) × (n ≡ number)
IsNumbered who number other = ⊥

-- exactly one call of its incarnation is open at a W, it is a `write` or `put` of that block and value, it has made no W
-- before, and the number of the W is new
pub record IsWriteOf (before : List Entry) (who : Who) (file block number value q : ℕ) : Type 0 where
  pub is_open : IsOpen before who q
  pub only : (other : ℕ) → IsOpen before who other → other ≡ q
  pub call : Writes file block value (call_of before who q)
  pub first : Throughout (IsBeforeCall who q) before
  pub fresh : ¬ Exists (IsNumbered who number) before

-- a W is of some call
abbrev pub IsWriteInOrder : (before : List Entry) (who : Who) (file block number value : ℕ) → Type 0
IsWriteInOrder before who file block number value = (q : ℕ) × IsWriteOf before who file block number value q

-- ---- resizes and removals

-- the call is a `resize` of the file to this length, or a `remove` of it and the length is 0
abbrev pub Resizes : (file to : ℕ) → Option Told → Type 0
Resizes file to (Some (Resize f blocks)) = (f ≡ file) × (blocks ≡ to)
Resizes file to (Some (Remove f)) = (f ≡ file) × (to ≡ 0)
Resizes file to other = ⊥

-- the entry is a Z of call q of an incarnation
abbrev pub IsResizeBy : (who : Who) (q : ℕ) → Entry → Type 0
IsResizeBy who q (Z by n file from to) = (by ≡ who) × (n ≡ q)
IsResizeBy who q other = ⊥

-- the call of a Z is open, it is a `resize` of that file to that length, or a `remove` of it, and has made no Z before
pub record IsResizeInOrder (before : List Entry) (who : Who) (q file to : ℕ) : Type 0 where
  pub is_open : IsOpen before who q
  pub call : Resizes file to (call_of before who q)
  pub first : ¬ Exists (IsResizeBy who q) before

-- ---- reads

-- a counted read stands after the C and before the A of its call, which has no counted read before
pub record IsReadInOrder (whole before : List Entry) (who : Who) (q : ℕ) : Type 0 where
  pub is_open : IsOpen before who q
  pub first : ¬ Exists (IsCountedBy whole who q) before

-- ---- the law

-- what is asked of an entry at its place in a journal; a call has one A at most
abbrev pub IsInOrder : (whole after : List Entry) → Entry → (before : List Entry) → Type 0
IsInOrder whole after (C who q told) before = IsCallInOrder after before who q
IsInOrder whole after (W who file block number value through) before = IsWriteInOrder before who file block number value
IsInOrder whole after (Z who q file from to) before = IsResizeInOrder before who q file to
IsInOrder whole after (R who q file block value served) before = IsCounted whole (R who q file block value served) → IsReadInOrder whole before who q
IsInOrder whole after (A who q said) before = ¬ Exists (IsAnswer who q) before
IsInOrder whole after other before = ⊤

-- a journal is ordered: each entry stands in the order of its client's calls
abbrev pub IsOrdered : (journal : List Entry) → Type 0
IsOrdered journal = AtEachPlace (IsInOrder journal) [] journal
