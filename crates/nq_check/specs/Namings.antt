-- Which losses the answers have named so far.
use Rattle.std.specs.Prelude.{◌≡◌, ◌<◌, ℕ, List, ◌∷◌, Option, Bool, true, false, ◌&&◌, ⊤, take, drop, reverse}
use Rattle.nq_base.specs.declared.Entry.{Entry}
use Rattle.nq_base.specs.declared.Entry.TheVariants.{L, A}
use Rattle.nq_base.specs.declared.Said.TheVariants.{Lost}
use Rattle.nq_base.specs.declared.Span.{Span}
use Rattle.nq_base.specs.declared.Told.{Told}
use Rattle.nq_base.specs.declared.Who.{Who}
use Rattle.nq_check.specs.Losses.{is_naming}
use Rattle.nq_rules.specs.Marks.{IsMarked, Spot, mark_at}
use Rattle.nq_model.specs.laws.Journal.{Each, call_of}
use Rattle.nq_model.specs.laws.JournalTest.{exists, speaks_of}
use Rattle.nq_model.specs.laws.Reported.{loss_told}
use Rattle.nq_model.specs.laws.ReportedTest.{is_name_of, name_losses}
use Rattle.nq_model.specs.protocol.Table.{same_who}

-- the key of a loss: its numbers, as an incarnation counts them
abbrev pub loss_spot : (who : Who) (first last : ℕ) → Spot
loss_spot who first last = ((who.host, who.inc), (first, last))

-- a loss that a span names has a mark
abbrev pub HasMark : List (Spot × ℕ) → (who : Who) → Span → Type 0
HasMark named who span = 0 < mark_at named (loss_spot who span.first span.last)

-- and it has none
abbrev pub HasNoMark : List (Spot × ℕ) → (who : Who) → Span → Type 0
HasNoMark named who span = mark_at named (loss_spot who span.first span.last) ≡ 0

-- what has a mark in the old marks has one in the new
abbrev pub KeepsMarks : (old new : List (Spot × ℕ)) → Type 0
KeepsMarks old new = (key : Spot) → 0 < mark_at old key → 0 < mark_at new key

-- where the entry is an A `lost`, each loss that it names has a mark
abbrev pub IsNamed : List (Spot × ℕ) → Entry → Type 0
IsNamed named (A who q (Lost spans)) = Each (HasMark named who) spans.items
IsNamed named other = ⊤

-- whether an entry is an L of the incarnation on the file of a call, and has the block and numbers of a span
abbrev pub is_lost_as : (who : Who) (call : Option Told) (span : Span) → Entry → Bool
is_lost_as who call span (L by file block first last) = same_who by who && speaks_of file call && is_name_of (loss_told file block first last) span
is_lost_as who call span other = false

-- a span names an earlier L that has no mark, and that has a mark now
pub record NamesAnew (before : List Entry) (who : Who) (call : Option Told) (span : Span) (mark : ℕ) (old new : List (Spot × ℕ)) : Type 0 where
  pub unnamed : HasNoMark old who span
  pub lost : exists (is_lost_as who call span) before ≡ true
  pub marked : IsMarked (loss_spot who span.first span.last) mark old new

-- the spans before a place do so, one after another
pub record NamesUpTo (whole before : List Entry) (who : Who) (call : Option Told) (spans : List Span) (place : ℕ) (old new : List (Spot × ℕ)) : Type 0 where
  pub keeps : KeepsMarks old new
  pub marks : (later : List (Spot × ℕ)) → KeepsMarks new later → Each (HasMark later who) (drop place spans) → Each (HasMark later who) spans
  pub names : Each (IsNamed old) before → Each (HasNoMark new who) (drop place spans) → name_losses whole before who call (drop place spans) ≡ true
      → name_losses whole before who call spans ≡ true

-- all spans do so
pub record NamesAll (whole before : List Entry) (who : Who) (call : Option Told) (spans : List Span) (old new : List (Spot × ℕ)) : Type 0 where
  pub keeps : KeepsMarks old new
  pub marks : Each (HasMark new who) spans
  pub names : Each (IsNamed old) before → name_losses whole before who call spans ≡ true

-- where each loss that is named before it has a mark, an A `lost` names losses anew, and they have marks, too
abbrev pub NamesLost : (whole : List Entry) (place : ℕ) (who : Who) (q : ℕ) (spans : List Span) (old new : List (Spot × ℕ)) → Type 0
NamesLost whole place who q spans old new =
    Each (IsNamed old) (reverse (take place whole))
    → (name_losses (reverse whole) (reverse (take place whole)) who (call_of (reverse whole) who q) spans ≡ true)
    × (Each (HasMark new who) spans × Each (IsNamed new) (reverse (take place whole)))

-- where each loss that is named before it has a mark, an entry names losses anew, and what it names has a mark, too
abbrev pub NamesOn : (whole : List Entry) (place : ℕ) → Entry → (old new : List (Spot × ℕ)) → Type 0
NamesOn whole place entry old new =
    Each (IsNamed old) (reverse (take place whole)) → (is_naming whole place entry ≡ true) × Each (IsNamed new) (entry ∷ reverse (take place whole))
