-- A batch: ranges for one change, and how a record spells them.
use Rattle.std.specs.Prelude.{◌≡◌, ℕ, ◌+◌, ◌<◌, ◌≤◌, ◌^◌, max, List, [], ◌∷◌, ◌++◌, IsFalse, length, drop}
use Rattle.std.specs.Int.{w32, w64, to_be_bytes}
use Rattle.nq_disk.specs.Ranges.{Range}
use Rattle.nq_disk.specs.Record.{is_misplaced, ranges_in}
use Rattle.nq_disk.specs.declared.redo.area.Area.{Area}

-- a range as a record spells it: its place, how many bytes it has, and its bytes
abbrev pub spelled_range : Range → List ℕ
spelled_range range = to_be_bytes w64 range.place ++ (to_be_bytes w32 (length range.bytes) ++ range.bytes)

-- ranges, one behind another
abbrev pub spelled : List Range → List ℕ
spelled [] = []
spelled (range ∷ ranges) = spelled_range range ++ spelled ranges

-- a record behind its gate: seven zeros, the number of ranges, four zeros, the ranges as they are spelled
abbrev pub body_with : (count : ℕ) → List ℕ → List ℕ
body_with count ranges = 0 ∷ 0 ∷ 0 ∷ 0 ∷ 0 ∷ 0 ∷ 0 ∷ (to_be_bytes w32 count ++ (0 ∷ 0 ∷ 0 ∷ 0 ∷ ranges))

abbrev pub body_of : List Range → List ℕ
body_of ranges = body_with (length ranges) (spelled ranges)

-- numbers that a record can spell
abbrev pub AreSpellable : List Range → Type 0
AreSpellable [] = Unit
AreSpellable (range ∷ ranges) = (range.place < 2 ^ 64) × (length range.bytes < 2 ^ 32) × AreSpellable ranges

-- ranges that lie where the ranges of a record may lie, on a disk of this length, which each of them may make longer
abbrev pub AreAllowed : Area → (len : ℕ) → List Range → Type 0
AreAllowed area len [] = Unit
AreAllowed area len (range ∷ ranges) =
    IsFalse (is_misplaced area.place area.size area.bound len range.place (length range.bytes))
    × AreAllowed area (max len (range.place + length range.bytes)) ranges

-- ranges that a record of this area can hold and may hold on a disk of this length: eight at most
pub record IsFit (area : Area) (len : ℕ) (ranges : List Range) : Type 0 where
  pub few : length ranges ≤ 8
  pub short : length (body_of ranges) + 1 ≤ area.size
  pub allowed : AreAllowed area len ranges

-- the ranges of a record behind its gate
abbrev pub ranges_behind : (count : ℕ) → List ℕ → List Range
ranges_behind count body = ranges_in count (drop 15 body)

-- these bytes spell so many ranges, eight at most, and nothing else
pub record IsBatch (count : ℕ) (body : List ℕ) : Type 0 where
  pub spells : body ≡ body_of (ranges_behind count body)
  pub counts : count ≡ length (ranges_behind count body)
  pub few : count ≤ 8
  pub fits : AreSpellable (ranges_behind count body)
