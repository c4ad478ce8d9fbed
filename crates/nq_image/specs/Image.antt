-- A whole image, whose redo record is closed or was applied before, as its parts in their order: the first part with a
-- wrong field names it.
use Rattle.std.specs.Prelude.{ℕ, ◌+◌, Bool, false, List, [], Option, Result, Ok, Err, length, sum_by, nat_le, replicate, if◌then◌else◌}
use Rattle.nq_base.specs.declared.HostRow.{HostRow}
use Rattle.nq_image.specs.declared.heads.Boots.{Boots}
use Rattle.nq_image.specs.declared.heads.Front.{Front}
use Rattle.nq_image.specs.declared.rows.Slot.{Slot}
use Rattle.nq_image.specs.declared.rows.Version.{Version}
use Rattle.nq_image.specs.Check.{tested}
use Rattle.nq_image.specs.Heads.{boots_checks, boots_of, front_checks, front_of}
use Rattle.nq_image.specs.Hosts.{hosts_checks, hosts_of}
use Rattle.nq_image.specs.Layout.{block_place, piece, are_zeros, whole_blocks}
use Rattle.nq_image.specs.Rows.{blocks_of, rows_checks, slots_of}
use Rattle.nq_image.specs.Tables.{held, ids_checks, ids_of, tables_blocks, tables_checks, tables_marks}

infixl 10 ◌>>=◌
-- goes on with the value of a part, or ends at its wrong field
abbrev pub ◌>>=◌ : {A B : Type 0} → Result A ℕ → (A → Result B ℕ) → Result B ℕ
(Ok x) >>= f = f x
(Err p) >>= f = Err p

-- what stands in the rows of hosts and files
pub record FoundRows : Type 0 where
  pub hosts : List HostRow
  pub slots : List (Option Slot)

-- the rows of hosts and files, and the zeros behind them
unfoldable pub rows_in : Version → List ℕ → Result FoundRows ℕ
rows_in version bytes = do
  hosts ← tested (hosts_checks 64 64 (piece 64 2048 bytes)) (hosts_of 64 (piece 64 2048 bytes))
  slots ← tested (rows_checks version 256 2112 [] (piece 2112 24576 bytes)) (slots_of 256 (piece 2112 24576 bytes))
  if are_zeros (piece 26688 1984 bytes) then Ok (record { hosts = hosts; slots = slots }) else Err 26688

-- what stands in an image of version 1
pub record FoundOne : Type 0 where
  pub boots : Boots
  pub rows : FoundRows

-- the disk reaches the end of the last file, or the place of the least block that it does not hold whole
abbrev pub reached : (size blocks : ℕ) → Result Unit ℕ
reached size blocks = if nat_le blocks (whole_blocks size) then Ok tt else Err (block_place (whole_blocks size))

-- an image of version 1: each file stands behind the one before it
unfoldable pub image_one : List ℕ → Result FoundOne ℕ
image_one bytes = do
  boots ← tested (boots_checks (piece 0 64 bytes)) (boots_of (piece 0 64 bytes))
  rows ← rows_in Version.One bytes
  reaches ← reached (length bytes) (sum_by blocks_of rows.slots)
  Ok (record { boots = boots; rows = rows })

-- what stands in the tables of an image of version 2: the ids of the rows, the physical blocks of the files, row after row,
-- and a mark for each physical block
pub record FoundTables : Type 0 where
  pub ids : List ℕ
  pub blocks : List ℕ
  pub marks : List Bool

-- of so many physical blocks none was given
unfoldable pub no_marks : (count : ℕ) → List Bool
no_marks count = replicate count false

-- the ids, where the block in which they stand is held whole
abbrev pub ids_in : (place next : ℕ) (slots : List (Option Slot)) (bytes : List ℕ) → Result (List ℕ) ℕ
ids_in place next slots bytes =
    if nat_le (place + 4096) (length bytes)
    then tested (ids_checks next place [] slots (piece place 4096 bytes)) (ids_of slots (piece place 4096 bytes))
    else Err place

-- the tables of an image of version 2, and the blocks that they name
unfoldable pub tables_in : Front → (slots : List (Option Slot)) (marks : List Bool) (bytes : List ℕ) → Result FoundTables ℕ
tables_in front slots marks bytes =
    let place = block_place front.tables in do
      blocks ← tested (tables_checks front.tables place slots marks bytes) (tables_blocks place slots bytes)
      ids ← ids_in (place + 1048576) front.next slots bytes
      holds ← held (length bytes) (tables_marks place slots marks bytes)
      Ok (record { ids = ids; blocks = blocks; marks = tables_marks place slots marks bytes })

-- what stands in an image of version 2
pub record FoundTwo : Type 0 where
  pub front : Front
  pub rows : FoundRows
  pub tables : FoundTables

-- an image of version 2
unfoldable pub image_two : (marks : List Bool) → List ℕ → Result FoundTwo ℕ
image_two marks bytes = do
  front ← tested (front_checks (piece 0 64 bytes)) (front_of (piece 0 64 bytes))
  rows ← rows_in Version.Two bytes
  tables ← tables_in front rows.slots marks bytes
  Ok (record { front = front; rows = rows; tables = tables })
