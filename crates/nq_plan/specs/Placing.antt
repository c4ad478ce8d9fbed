-- Where the file of a change comes to stand in an image.
use Rattle.std.specs.Prelude.{◌≡◌, ◌<◌, ℕ, ◌-◌, ◌&&◌, not, Bool, true, false, List, ◌++◌, Option, Some, None, filter, length, min, position, take}
use Rattle.nq_base.specs.declared.FileRow.{FileRow}
use Rattle.nq_image.specs.Kept.{numbers_from}
use Rattle.nq_image.specs.Standing.{PlacedFile}
use Rattle.nq_image.specs.Tables.{is_marked, is_of_tables}
use Rattle.nq_plan.specs.declared.placing.Placed.{Placed}
use Rattle.nq_plan.specs.Held.{HeldTables}
use Rattle.nq_plan.specs.Finding.{blocks_of, slot_of}

-- whether no file has a physical block, and it is none of the tables'
abbrev pub is_free : HeldTables → (block : ℕ) → Bool
is_free held block = not (is_of_tables held.standing.tables block) && not (is_marked held.marks block)

-- so many free blocks, the least ones
unfoldable pub free_blocks : HeldTables → (count : ℕ) → List ℕ
free_blocks held count = take count (filter (is_free held) (numbers_from 0 16641))

-- the blocks of a file that had these and comes to have so many: the first of them stay, and free ones come behind them
abbrev pub placed_blocks : HeldTables → (known : List ℕ) → (count : ℕ) → List ℕ
placed_blocks held known count = take count known ++ free_blocks held (count - length known)

-- whether no file stands in a row
abbrev pub is_unused : Option PlacedFile → Bool
is_unused None = true
is_unused (Some file) = false

-- the row of a file that had this one; a new file takes the least unused one
abbrev pub placed_slot : List (Option PlacedFile) → (known : Option ℕ) → Option ℕ
placed_slot rows (Some slot) = Some slot
placed_slot rows None = position is_unused rows

-- the file of a row, at its place
abbrev pub file_for : FileRow → (slot : ℕ) → (blocks : List ℕ) → PlacedFile
file_for row slot blocks = record { id = row.id; name = row.name; rev = row.rev; slot = slot; blocks = blocks }

-- where the file of a row comes to stand: it has as many blocks as its row says, and the first of them it had before
pub record IsPlaced (held : HeldTables) (row : FileRow) (placed : Placed) : Type 0 where
  pub file : placed.file ≡ file_for row placed.file.slot (placed_blocks held (blocks_of held.standing row.id) row.blocks)
  pub slot : placed_slot held.standing.rows (slot_of row.id held.standing.rows) ≡ Some placed.file.slot
  pub within : placed.file.slot < 256
  pub whole : length placed.file.blocks ≡ row.blocks
  pub stay : placed.stay ≡ min (length (blocks_of held.standing row.id)) row.blocks

-- the same of a change that may have no file
abbrev pub IsPlacedFor : HeldTables → Option FileRow → Option Placed → Type 0
IsPlacedFor held None None = Unit {0}
IsPlacedFor held (Some row) (Some placed) = IsPlaced held row placed
IsPlacedFor held _ _ = ⊥
