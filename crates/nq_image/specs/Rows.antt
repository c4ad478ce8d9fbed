-- The rows of the files in an image.
use Rattle.std.specs.Prelude.{ℕ, ◌+◌, ◌==◌, Bool, true, false, ◌&&◌, not, List, [], ◌∷◌, ◌++◌, Option, Some, None, take, drop, nat_lt, nat_le, nat_eq}
use Rattle.std.specs.Prelude.{sum_by, zero, suc, if◌then◌else◌}
use Rattle.std.specs.Cmp.Lexicographic.{pointwise}
use Rattle.std.specs.List.{list_any}
use Rattle.nq_base.specs.Name.{is_name}
use Rattle.nq_image.specs.declared.rows.Slot.{Slot}
use Rattle.nq_image.specs.declared.rows.Version.{Version}
use Rattle.nq_image.specs.Check.{Check, check}
use Rattle.nq_image.specs.Layout.{piece, word_in, hyper_in, are_zeros}

-- the blocks of a row, which is used or unused
abbrev pub blocks_of : Option Slot → ℕ
blocks_of None = 0
blocks_of (Some slot) = slot.blocks

-- whether a row is used and has this name
abbrev pub has_name : (name : List ℕ) → Option Slot → Bool
has_name name None = false
has_name name (Some slot) = pointwise nat_eq slot.name name

-- whether one of these rows has this name
abbrev pub is_named : (name : List ℕ) → List (Option Slot) → Bool
is_named name slots = list_any (has_name name) slots

-- the name in a row, by the length that stands before it
unfoldable pub name_in : (row : List ℕ) → List ℕ
name_in row = take (word_in 0 row) (piece 4 64 row)

-- the bytes behind the name
unfoldable pub behind_name : (row : List ℕ) → List ℕ
behind_name row = drop (word_in 0 row) (piece 4 64 row)

-- whether a row has a name of its own: the bytes are a name's, those behind it are zeros, and none of these rows has it
unfoldable pub name_holds : (slots : List (Option Slot)) (row : List ℕ) → Bool
name_holds slots row = is_name (name_in row) && are_zeros (behind_name row) && not (is_named (name_in row) slots)

-- whether a length is one that a name can have
abbrev pub is_length : ℕ → Bool
is_length n = nat_le 1 n && nat_le n 64

-- whether a number of blocks is one that a file can have, behind files with so many blocks
abbrev pub is_count : (before count : ℕ) → Bool
is_count before count = nat_le 1 count && nat_le count 1024 && nat_le (before + count) 16384

-- in version 1 a file begins at the block behind the files before it; in version 2 the number has no meaning
abbrev pub is_first : Version → (before first : ℕ) → Bool
is_first Version.One before first = first == before
is_first Version.Two before first = true

-- what a used row has to be, behind these rows
unfoldable pub used_checks : Version → (place : ℕ) (slots : List (Option Slot)) (row : List ℕ) → List Check
used_checks version place slots row =
    check place (is_length (word_in 0 row))
    ∷ check (place + 4) (name_holds slots row)
    ∷ check (place + 68) (is_count (sum_by blocks_of slots) (word_in 68 row))
    ∷ check (place + 72) (is_first version (sum_by blocks_of slots) (word_in 72 row))
    ∷ check (place + 76) (nat_lt (hyper_in 76 row) 2305843009213693952)
    ∷ check (place + 84) (are_zeros (piece 84 12 row))
    ∷ []

-- the least field that is not zeros, of a row that is not
abbrev pub least_not_zeros : (place : ℕ) (row : List ℕ) → ℕ
least_not_zeros place row =
    if not (word_in 0 row == 0) then place
    else if not (are_zeros (piece 4 64 row)) then place + 4
    else if not (word_in 68 row == 0) then place + 68
    else if not (word_in 72 row == 0) then place + 72
    else if not (hyper_in 76 row == 0) then place + 76
    else place + 84

-- whether a row is unused
abbrev pub is_unused : Option Slot → Bool
is_unused None = true
is_unused (Some slot) = false

-- in version 1 no used row stands behind an unused one
abbrev pub is_shut : Version → List (Option Slot) → Bool
is_shut Version.One slots = list_any is_unused slots
is_shut Version.Two slots = false

-- what a row has to be, behind these rows: a row of zeros is unused
unfoldable pub row_checks : Version → (place : ℕ) (slots : List (Option Slot)) (row : List ℕ) → List Check
row_checks version place slots row =
    if are_zeros row then []
    else if is_shut version slots then check (least_not_zeros place row) false ∷ []
    else used_checks version place slots row

-- the file that stands in a used row
unfoldable pub used_slot : (row : List ℕ) → Slot
used_slot row = record { name = name_in row; blocks = word_in 68 row; rev = hyper_in 76 row }

-- what stands in a row
unfoldable pub slot_of : (row : List ℕ) → Option Slot
slot_of row = if are_zeros row then None else Some (used_slot row)

-- what so many rows have to be, of which the first stands at a place, behind these rows
unfoldable pub rows_checks : Version → (count place : ℕ) (slots : List (Option Slot)) (rows : List ℕ) → List Check
rows_checks version zero place slots rows = []
rows_checks version (suc count) place slots rows =
    row_checks version place slots (take 96 rows)
    ++ rows_checks version count (place + 96) (slots ++ slot_of (take 96 rows) ∷ []) (drop 96 rows)

-- what stands in so many rows
unfoldable pub slots_of : (count : ℕ) (rows : List ℕ) → List (Option Slot)
slots_of zero rows = []
slots_of (suc count) rows = slot_of (take 96 rows) ∷ slots_of count (drop 96 rows)
