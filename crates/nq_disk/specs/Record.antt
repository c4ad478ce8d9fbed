-- The redo record on a disk: what it says, which field of it is wrong, and what an open gives.
use Rattle.std.specs.Prelude.{ℕ, zero, suc, not, ◌+◌, ◌&&◌, ◌||◌, ◌==◌, Bool, List, [], ◌∷◌, Option, Some, None, Result, Ok, Err, length, max, take}
use Rattle.std.specs.Prelude.{drop, replicate, slice_index, nat_lt, if◌then◌else◌}
use Rattle.std.specs.List.{list_all}
use Rattle.std.specs.Int.{w32, w64, from_be_bytes}
use Rattle.nq_disk.specs.Bytes.{written}
use Rattle.nq_disk.specs.Ranges.{Range, applied}

-- the number of the first four bytes
unfoldable pub word : List ℕ → ℕ
word bytes = from_be_bytes w32 (take 4 bytes)

-- the number of the first eight bytes, where there are as many
abbrev pub hyper_at : List ℕ → Option ℕ
hyper_at (a ∷ b ∷ c ∷ d ∷ e ∷ f ∷ g ∷ h ∷ rest) = Some (from_be_bytes w64 (a ∷ b ∷ c ∷ d ∷ e ∷ f ∷ g ∷ h ∷ []))
hyper_at short = None

-- whether these are all zeros
abbrev pub are_zeros : List ℕ → Bool
are_zeros bytes = list_all (λ b. b == 0) bytes

-- a range that fits at the front of these bytes, and the bytes behind it: its place, its length, and its bytes
pub record Front : Type 0 where
  pub range : Range
  pub rest : List ℕ

abbrev pub front_of : ℕ → (body behind : List ℕ) → Front
front_of place body behind = record { range = record { place = place; bytes = body }; rest = behind }

abbrev pub front_within : (place n : ℕ) → List ℕ → Option Front
front_within place n rest = if nat_lt (length rest) n then None else Some (front_of place (take n rest) (drop n rest))

abbrev pub front_range : List ℕ → Option Front
front_range (a ∷ b ∷ c ∷ d ∷ e ∷ f ∷ g ∷ h ∷ i ∷ j ∷ k ∷ l ∷ rest) = front_within (from_be_bytes w64 (a ∷ b ∷ c ∷ d ∷ e ∷ f ∷ g ∷ h ∷ []))
    (from_be_bytes w32 (i ∷ j ∷ k ∷ l ∷ [])) rest
front_range short = None

-- a range, and more of them behind it
abbrev pub then_ranges : Option Front → (List ℕ → List Range) → List Range
then_ranges None more = []
then_ranges (Some front) more = front.range ∷ more front.rest

-- so many ranges at the front of these bytes
abbrev pub ranges_in : ℕ → List ℕ → List Range
ranges_in zero bytes = []
ranges_in (suc n) bytes = then_ranges (front_range bytes) (ranges_in n)

-- whether a range of n bytes at a place lies where no range of a record may lie: in the first seven bytes, in the record, past the
-- bound, or with its beginning past the end of the disk
unfoldable pub is_misplaced : (start size bound len place n : ℕ) → Bool
is_misplaced start size bound len place n =
    (nat_lt place 7 && nat_lt 0 (place + n))
    || (nat_lt start (place + n) && nat_lt place (start + size))
    || nat_lt bound (place + n)
    || nat_lt len place

-- how many bytes a range has by the number behind its place, where there is one
abbrev pub count_at : List ℕ → ℕ
count_at (a ∷ b ∷ c ∷ d ∷ e ∷ f ∷ g ∷ h ∷ i ∷ j ∷ k ∷ l ∷ rest) = from_be_bytes w32 (i ∷ j ∷ k ∷ l ∷ [])
count_at short = 0

-- the wrong field of a range that passes the end of the record: its place, where that does not fit or is wrong for so many bytes, else
-- its length
abbrev pub unfit_field : (start size bound len at : ℕ) → Option ℕ → (count : ℕ) → ℕ
unfit_field start size bound len at None count = at
unfit_field start size bound len at (Some place) count = if is_misplaced start size bound len place count then at else at + 8

-- the place of the first wrong field in a range that begins at a place, or behind it, on a disk of this length. The range may make the
-- disk longer
abbrev pub then_wrong : (start size bound len at : ℕ) → List ℕ → Option Front → ((len at : ℕ) → List ℕ → Option ℕ) → Option ℕ
then_wrong start size bound len at bytes None more = Some (unfit_field start size bound len at (hyper_at bytes) (count_at bytes))
then_wrong start size bound len at bytes (Some front) more =
    if is_misplaced start size bound len front.range.place (length front.range.bytes)
    then Some at
    else more (max len (front.range.place + length front.range.bytes)) (at + 12 + length front.range.bytes) front.rest

-- the place of the first wrong field among so many ranges that begin at a place
abbrev pub wrong_range : (start size bound : ℕ) → (count len at : ℕ) → List ℕ → Option ℕ
wrong_range start size bound zero len at bytes = None
wrong_range start size bound (suc n) len at bytes = then_wrong start size bound len at bytes (front_range bytes) (wrong_range start size bound n)

-- the place of the first wrong field of a record that begins at a place
unfoldable pub wrong_field : (start size bound len : ℕ) → List ℕ → Option ℕ
wrong_field start size bound len bytes =
    if not (are_zeros (take 7 (drop 1 bytes)))
    then Some (start + 1)
    else (
    if nat_lt 8 (word (drop 8 bytes))
    then Some (start + 8)
    else (
    if not (are_zeros (take 4 (drop 12 bytes))) then Some (start + 12) else wrong_range start size bound (word (drop 8 bytes)) len (start + 16) (drop 16 bytes)
    )
    )

-- the ranges of a record
abbrev pub ranges_of : List ℕ → List Range
ranges_of bytes = ranges_in (word (drop 8 bytes)) (drop 16 bytes)

-- a disk with so many zeros at a place
unfoldable pub blanked : (place size : ℕ) → List ℕ → List ℕ
blanked place size disk = written place (replicate size 0) disk

-- the bytes of the record
abbrev pub record_at : (place size : ℕ) → List ℕ → List ℕ
record_at place size disk = take size (drop place disk)

-- what an open gives for a record with an open gate: the first wrong field, or the disk with the ranges written
abbrev pub replayed : (place size : ℕ) → List ℕ → Option ℕ → Result (List ℕ) ℕ
replayed place size disk (Some wrong) = Err wrong
replayed place size disk None = Ok (applied (ranges_of (record_at place size disk)) (blanked place size disk))

-- What an open of a disk gives, with the record blanked: the disk as it is where the gate is closed. The record has so many bytes
-- at a place, and its ranges end within the bound.
unfoldable pub opened : (place size bound : ℕ) → List ℕ → Result (List ℕ) ℕ
opened place size bound disk =
    if slice_index disk place == 1
    then replayed place size disk (wrong_field place size bound (length disk) (record_at place size disk))
    else Ok (blanked place size disk)
