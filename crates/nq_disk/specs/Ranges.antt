-- Ranges of bytes that a change writes to a disk.
use Rattle.std.specs.Prelude.{◌≡◌, ◌⊎◌, ℕ, ◌+◌, ◌<◌, ◌≤◌, max, List, [], ◌∷◌, length, slice_index}
use Rattle.nq_disk.specs.Bytes.{written}

-- bytes for a place
pub record Range : Type 0 where
  pub place : ℕ
  pub bytes : List ℕ

-- a disk after these ranges were written, in order
abbrev pub applied : List Range → List ℕ → List ℕ
applied [] disk = disk
applied (range ∷ ranges) disk = applied ranges (written range.place range.bytes disk)

-- a place outside a range of n bytes
abbrev pub Outside : (k place n : ℕ) → Type 0
Outside k place n = (k < place) ⊎ (place + n ≤ k)

-- a place outside all of these ranges
abbrev pub OutsideAll : ℕ → List Range → Type 0
OutsideAll k [] = Unit
OutsideAll k (range ∷ ranges) = Outside k range.place (length range.bytes) × OutsideAll k ranges

-- one of these ranges
abbrev pub Among : List Range → Range → Type 0
Among [] range = ⊥
Among (first ∷ ranges) range = (range ≡ first) ⊎ Among ranges range

-- how long a disk of this length is after these ranges were written
abbrev pub furthest : List Range → ℕ → ℕ
furthest [] len = len
furthest (range ∷ ranges) len = max (range.place + length range.bytes) (furthest ranges len)

-- no range begins past this length, or past what the ranges before it make of it, and each stands outside n bytes at a place
abbrev pub ArePlaced : (len place n : ℕ) → List Range → Type 0
ArePlaced len place n [] = Unit
ArePlaced len place n (range ∷ ranges) =
    (range.place ≤ len)
    × ((range.place + length range.bytes ≤ place) ⊎ (place + n ≤ range.place))
    × ArePlaced (max len (range.place + length range.bytes)) place n ranges

-- any bytes stand in these ranges and past the old end, and the same elsewhere
pub record Settling (ranges : List Range) (old new : List ℕ) : Type 0 where
  pub no_shorter : length old ≤ length new
  pub no_longer : length new ≤ furthest ranges (length old)
  pub outside : (k : ℕ) → k < length old → OutsideAll k ranges → slice_index new k ≡ slice_index old k
