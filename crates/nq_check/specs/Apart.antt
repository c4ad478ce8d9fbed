-- Ranges of numbers that entries cover, in the order of their blocks and numbers.
use Rattle.std.specs.Prelude.{◌≡◌, ◌<◌, ◌≤◌, ◌⊎◌, ◌&&◌, ◌||◌, ℕ, List, Bool, Option, Some, None, nat_eq, nat_lt}
use Rattle.std.specs.List.{slice_get}
use Rattle.nq_base.specs.declared.Entry.{Entry}
use Rattle.nq_base.specs.declared.Entry.TheVariants.{S, L}
use Rattle.nq_rules.specs.Marks.{Spot, mark_at, spot}

-- a block and the first number, the last one and the place of the entry
abbrev pub Range : Type 0
Range = (ℕ × ℕ) × (ℕ × ℕ)

-- the range of the S or L at a place, whose block is told by its mark
abbrev pub range_of : (marks : List (Spot × ℕ)) (place : ℕ) → Entry → Option Range
range_of marks place (S who file block first last now) = Some ((mark_at marks (spot who file block), first), (last, place))
range_of marks place (L who file block first last) = Some ((mark_at marks (spot who file block), first), (last, place))
range_of marks place other = None

-- a range is of an earlier block than another, or of the same and ends before the other begins
abbrev pub IsBelow : (low high : Range) → Type 0
IsBelow low high = (low.0.0 < high.0.0) ⊎ ((low.0.0 ≡ high.0.0) × (low.1.0 < high.0.1))

abbrev pub is_below : (low high : Range) → Bool
is_below low high = nat_lt low.0.0 high.0.0 || (nat_eq low.0.0 high.0.0 && nat_lt low.1.0 high.0.1)

-- a range does not end before it begins, and is so with that at a place
pub record IsUnder (low : Range) (ranges : List Range) (j : ℕ) : Type 0 where
  pub high : Range
  pub at_high : slice_get ranges j ≡ Some high
  pub upright : low.0.1 ≤ low.1.0
  pub below : IsBelow low high

-- the range at one place is so with that at another
pub record FollowsAt (ranges : List Range) (i j : ℕ) : Type 0 where
  pub low : Range
  pub high : Range
  pub at_low : slice_get ranges i ≡ Some low
  pub at_high : slice_get ranges j ≡ Some high
  pub upright : low.0.1 ≤ low.1.0
  pub below : IsBelow low high

-- each of the ranges before a place is so with each that stands behind it
abbrev pub AreApart : (ranges : List Range) (upto : ℕ) → Type 0
AreApart ranges upto =
    (i j : ℕ) (low high : Range) → i < j → j < upto → slice_get ranges i ≡ Some low → slice_get ranges j ≡ Some high → IsBelow low high

-- a range is one of these
pub record HasRange (ranges : List Range) (range : Range) : Type 0 where
  pub rank : ℕ
  pub there : slice_get ranges rank ≡ Some range

-- the range of the entry at a place is one of the ranges, where it has one
abbrev pub IsRanked : (ranges : List Range) (marks : List (Spot × ℕ)) (place : ℕ) → Entry → Type 0
IsRanked ranges marks place entry = (range : Range) → range_of marks place entry ≡ Some range → HasRange ranges range

-- an entry stands before a place, and its range is one of the ranges
pub record IsRankedBelow (ranges : List Range) (marks : List (Spot × ℕ)) (upto : ℕ) (entry : Entry) : Type 0 where
  pub place : ℕ
  pub below : place < upto
  pub ranked : IsRanked ranges marks place entry
