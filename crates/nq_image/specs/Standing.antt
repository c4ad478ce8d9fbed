-- Where each part of a kept state stands in an image of version 2, and what a change writes of it.
use Rattle.std.specs.Prelude.{◌≡◌, ◌≢◌, ◌≤◌, ◌<◌, ◌^◌, ◌+◌, ◌*◌, ◌⊎◌, ℕ, suc, Bool, true, false, List, [], ◌∷◌, ◌++◌, Option, Some, None, Ok, All}
use Rattle.std.specs.Prelude.{length, map, take, drop, nat_lt, slice_index_or, slice_set, if◌then◌else◌}
use Rattle.std.specs.Int.{w32, to_be_bytes}
use Rattle.std.specs.List.{Contains}
use Rattle.nq_base.specs.Name.{IsName}
use Rattle.nq_base.specs.declared.FileRow.{FileRow}
use Rattle.nq_base.specs.declared.Heads.{Heads}
use Rattle.nq_base.specs.declared.HostRow.{HostRow}
use Rattle.nq_model.specs.protocol.Kept.{File, Kept, resized}
use Rattle.nq_image.specs.declared.heads.Front.{Front}
use Rattle.nq_image.specs.declared.rows.Slot.{Slot}
use Rattle.nq_image.specs.Image.{FoundTwo, no_marks}
use Rattle.nq_image.specs.Kept.{body_in}
use Rattle.nq_image.specs.Layout.{block_place, piece}
use Rattle.nq_image.specs.Tables.{is_of_tables, table_of}
use Rattle.nq_image.specs.Whole.{of_two, image_in}
use Rattle.nq_image.specs.Writing.{row_bytes, table_of_blocks, zeros_of}

-- a file and where it stands: the number of its row, and the physical numbers of its blocks
pub record PlacedFile : Type 0 where
  pub id : ℕ
  pub name : List ℕ
  pub rev : ℕ
  pub slot : ℕ
  pub blocks : List ℕ

-- what is kept and where it stands: the numbers of the server, the block at which the tables begin, the rows of the hosts,
-- and the rows of the files, None for an unused one
pub record Standing : Type 0 where
  pub heads : Heads
  pub tables : ℕ
  pub hosts : List HostRow
  pub rows : List (Option PlacedFile)

-- what the row of a file says of it
abbrev pub row_slot : Option PlacedFile → Option Slot
row_slot None = None
row_slot (Some file) = Some (record { name = file.name; blocks = length file.blocks; rev = file.rev })

-- the id that stands for a row
abbrev pub row_id : Option PlacedFile → ℕ
row_id None = 0
row_id (Some file) = file.id

-- the physical blocks of a row
abbrev pub row_blocks : Option PlacedFile → List ℕ
row_blocks None = []
row_blocks (Some file) = file.blocks

-- the physical blocks of these rows, row after row
unfoldable pub blocks_in : List (Option PlacedFile) → List ℕ
blocks_in [] = []
blocks_in (row ∷ rows) = row_blocks row ++ blocks_in rows

-- the marks once these blocks are given
unfoldable pub marks_with : List Bool → (blocks : List ℕ) → List Bool
marks_with marks [] = marks
marks_with marks (block ∷ blocks) = marks_with (slice_set marks block true) blocks

-- the numbers in the first bytes
abbrev pub front_for : Heads → (tables : ℕ) → Front
front_for heads tables = record { boot = heads.boot; opened = heads.opened; longest = heads.longest; next = heads.next; tables = tables }

-- what is read in an image where these stand
abbrev pub found_of : Standing → FoundTwo
found_of s = record {
  front = front_for s.heads s.tables;
  rows = record { hosts = s.hosts; slots = map row_slot s.rows };
  tables = record { ids = map row_id s.rows; blocks = blocks_in s.rows; marks = marks_with (no_marks 16641) (blocks_in s.rows) };
}

-- the file of each row knows the number of that row, of which the first has this one
abbrev pub AreNumbered : (slot : ℕ) → List (Option PlacedFile) → Type 0
AreNumbered slot [] = Unit
AreNumbered slot (None ∷ rows) = AreNumbered (slot + 1) rows
AreNumbered slot (Some file ∷ rows) = (file.slot ≡ slot) × AreNumbered (slot + 1) rows

-- these stand in an image
pub record Stands (bytes : List ℕ) (s : Standing) : Type 0 where
  pub found : image_in bytes ≡ Some (Ok (of_two (found_of s)))
  pub numbered : AreNumbered 0 s.rows

-- a file put before the first with a later id
abbrev pub put_file : PlacedFile → List PlacedFile → List PlacedFile
put_file file [] = file ∷ []
put_file file (f ∷ files) = if nat_lt file.id f.id then file ∷ f ∷ files else f ∷ put_file file files

-- these files with those of more rows, in order of their ids
unfoldable pub with_rows : List PlacedFile → List (Option PlacedFile) → List PlacedFile
with_rows files [] = files
with_rows files (None ∷ rows) = with_rows files rows
with_rows files (Some file ∷ rows) = with_rows (put_file file files) rows

-- the files of all rows, in order of their ids
abbrev pub files_in : Standing → List PlacedFile
files_in s = with_rows [] s.rows

-- a file with the bodies of its blocks
unfoldable pub file_at : (bytes : List ℕ) → PlacedFile → File
file_at bytes file = record { id = file.id; name = file.name; rev = file.rev; bodies = map (body_in bytes) file.blocks }

-- what is kept in an image where these stand
unfoldable pub kept_at : (bytes : List ℕ) → Standing → Kept
kept_at bytes s = record {
  files = map (file_at bytes) (files_in s);
  hosts = s.hosts;
  boot = s.heads.boot;
  opened = s.heads.opened;
  longest = s.heads.longest;
  next = s.heads.next;
}

-- bytes with a part in place of what stood at a place
unfoldable pub overwritten : (place : ℕ) (part bytes : List ℕ) → List ℕ
overwritten place part bytes = take place bytes ++ (part ++ drop (place + length part) bytes)

-- the numbers and rows, which stand before the record
abbrev pub rows_of_image : List ℕ → List ℕ
rows_of_image bytes = piece 0 28672 bytes

-- the new bytes have the same blocks of the tables and the same bodies of files, and are not fewer
pub record HaveSameBlocks (s : Standing) (old new : List ℕ) : Type 0 where
  pub no_shorter : length old ≤ length new
  pub tables : (n : ℕ) → n < 257 → body_in new (s.tables + n) ≡ body_in old (s.tables + n)
  pub bodies : All (λ block. body_in new block ≡ body_in old block) (blocks_in s.rows)

-- the new bytes are the same wherever something stands: the record and the free blocks may be any
pub record Agree (s : Standing) (old new : List ℕ) : Type 0 where
  pub rows : rows_of_image new ≡ rows_of_image old
  pub blocks : HaveSameBlocks s old new

-- the new bytes are the same but for this part of the numbers and rows
pub record AgreeBut (place : ℕ) (part : List ℕ) (s : Standing) (old new : List ℕ) : Type 0 where
  pub rows : rows_of_image new ≡ overwritten place part (rows_of_image old)
  pub blocks : HaveSameBlocks s old new

-- these with other numbers of the server
abbrev pub with_heads : Standing → Heads → Standing
with_heads s heads = record s { heads = heads }

-- these with another row of a host
abbrev pub with_host : Standing → (host : ℕ) → HostRow → Standing
with_host s host row = record s { hosts = slice_set s.hosts host row }

-- these with another row of a file
abbrev pub with_placed : Standing → (slot : ℕ) → Option PlacedFile → Standing
with_placed s slot row = record s { rows = slice_set s.rows slot row }

-- the rows but one
abbrev pub others : (slot : ℕ) → List (Option PlacedFile) → List (Option PlacedFile)
others slot rows = take slot rows ++ drop (suc slot) rows

-- a row has neither the name nor the id of a file
abbrev pub IsApartFrom : PlacedFile → Option PlacedFile → Type 0
IsApartFrom file None = Unit {0}
IsApartFrom file (Some other) = (other.name ≢ file.name) × (other.id ≢ file.id)

-- none of these is a block
abbrev pub IsNoneOf : List ℕ → (block : ℕ) → Type 0
IsNoneOf blocks block = All (λ other. other ≢ block) blocks

-- no block twice
abbrev pub AreDistinct : List ℕ → Type 0
AreDistinct [] = Unit {0}
AreDistinct (block ∷ blocks) = IsNoneOf blocks block × AreDistinct blocks

-- a block that a file may have: there is one of this number, and it is none of the tables'
pub record IsFileBlock (tables block : ℕ) : Type 0 where
  pub below : block < 16641
  pub apart : is_of_tables tables block ≡ false

-- a file can stand in its row, beside the other rows
pub record CanStand (s : Standing) (file : PlacedFile) : Type 0 where
  pub row : file.slot < 256
  pub from_one : 1 ≤ file.id
  pub below_next : file.id < s.heads.next
  pub few_ids : file.id < 2 ^ 32
  pub name : IsName file.name
  pub rev : file.rev < 2 ^ 61
  pub some : 1 ≤ length file.blocks
  pub short : length file.blocks ≤ 1024
  pub few : length (blocks_in (others file.slot s.rows)) + length file.blocks ≤ 16384
  pub apart : All (IsApartFrom file) (others file.slot s.rows)
  pub distinct : AreDistinct file.blocks
  pub there : All (IsFileBlock s.tables) file.blocks
  pub free : All (IsNoneOf (blocks_in (others file.slot s.rows))) file.blocks

-- the new bytes have the row, the id and the table of a file, and the same bodies of the other files
pub record IsFileWritten (s : Standing) (file : PlacedFile) (old new : List ℕ) : Type 0 where
  pub no_shorter : length old ≤ length new
  pub row : rows_of_image new ≡ overwritten (2112 + 96 * file.slot) (row_bytes file.name (length file.blocks) file.rev) (rows_of_image old)
  pub table : body_in new (s.tables + file.slot) ≡ table_of_blocks file.blocks
  pub tables : (n : ℕ) → n < 256 → n ≢ file.slot → body_in new (s.tables + n) ≡ body_in old (s.tables + n)
  pub id : body_in new (s.tables + 256) ≡ overwritten (4 * file.slot) (to_be_bytes w32 file.id) (body_in old (s.tables + 256))
  pub bodies : All (λ block. body_in new block ≡ body_in old block) (blocks_in (others file.slot s.rows))
  pub whole : All (λ block. block_place block + 4096 ≤ length new) file.blocks

-- the new bytes have zeros for a row and its id, and the same bodies of the other files
pub record IsRowCleared (s : Standing) (slot : ℕ) (old new : List ℕ) : Type 0 where
  pub no_shorter : length old ≤ length new
  pub row : rows_of_image new ≡ overwritten (2112 + 96 * slot) (zeros_of 96) (rows_of_image old)
  pub tables : (n : ℕ) → n < 256 → n ≢ slot → body_in new (s.tables + n) ≡ body_in old (s.tables + n)
  pub id : body_in new (s.tables + 256) ≡ overwritten (4 * slot) (zeros_of 4) (body_in old (s.tables + 256))
  pub bodies : All (λ block. body_in new block ≡ body_in old block) (blocks_in (others slot s.rows))

-- what the row of a file says of it, as it is kept
abbrev pub row_for : PlacedFile → FileRow
row_for file = record { id = file.id; name = file.name; blocks = length file.blocks; rev = file.rev }

-- the file in a row
abbrev pub row_at : Standing → (slot : ℕ) → Option PlacedFile
row_at s slot = slice_index_or s.rows slot None

-- the new bytes have these bodies in the blocks of a file: those that the file had in its row, cut, or with zeros behind them
abbrev pub HasBodies : (s : Standing) (file : PlacedFile) (old new : List ℕ) → Type 0
HasBodies s file old new = map (body_in new) file.blocks ≡ resized (length file.blocks) (map (body_in old) (row_blocks (row_at s file.slot)))

-- the new bytes have another body in a block of a file, and are the same wherever else something stands
pub record IsBodyWritten (s : Standing) (block : ℕ) (bytes old new : List ℕ) : Type 0 where
  pub no_shorter : length old ≤ length new
  pub rows : rows_of_image new ≡ rows_of_image old
  pub tables : (n : ℕ) → n < 257 → body_in new (s.tables + n) ≡ body_in old (s.tables + n)
  pub body : body_in new block ≡ bytes
  pub bodies : All (λ other. other ≢ block → body_in new other ≡ body_in old other) (blocks_in s.rows)

-- the files that are read in these rows with these ids, of which the first row has a number and its table stands at a place
unfoldable pub placed_rows : (slot place : ℕ) → List (Option Slot) → (ids bytes : List ℕ) → List (Option PlacedFile)
placed_rows slot place [] ids bytes = []
placed_rows slot place (None ∷ slots) ids bytes = None ∷ placed_rows (slot + 1) (place + 4096) slots (drop 1 ids) bytes
placed_rows slot place (Some own ∷ slots) ids bytes =
    Some (record {
      id = slice_index_or ids 0 0;
      name = own.name;
      rev = own.rev;
      slot = slot;
      blocks = table_of own.blocks (piece place 4096 bytes);
    })
    ∷ placed_rows (slot + 1) (place + 4096) slots (drop 1 ids) bytes

-- where what was read stands
abbrev pub standing_in : (bytes : List ℕ) → FoundTwo → Standing
standing_in bytes found = record {
  heads = record { boot = found.front.boot; opened = found.front.opened; longest = found.front.longest; next = found.front.next };
  tables = found.front.tables;
  hosts = found.rows.hosts;
  rows = placed_rows 0 (block_place found.front.tables) found.rows.slots found.tables.ids bytes;
}

-- a block that may be given to a file: no file has it, and it is none of the tables'
pub record IsFree (s : Standing) (block : ℕ) : Type 0 where
  pub apart : is_of_tables s.tables block ≡ false
  pub none : IsNoneOf (blocks_in s.rows) block

-- a place in a block
abbrev pub IsInBlock : (block place : ℕ) → Type 0
IsInBlock block place = (block_place block ≤ place) × (place < block_place block + 4096)

-- a place where something stands: in the numbers and rows, in the tables, or in a block of a file
abbrev pub IsUsed : Standing → (place : ℕ) → Type 0
IsUsed s place =
    (place < 28672)
    ⊎ ((n : ℕ) × (n < 257) × IsInBlock (s.tables + n) place)
    ⊎ ((block : ℕ) × Contains (blocks_in s.rows) block × IsInBlock block place)

-- where the row of a file stands, and its id
abbrev pub row_place : (slot : ℕ) → ℕ
row_place slot = 2112 + 96 * slot

abbrev pub id_place : (tables slot : ℕ) → ℕ
id_place tables slot = block_place (tables + 256) + 4 * slot

-- an image with a file written: its row, its id, its table
abbrev pub with_file_written : Standing → PlacedFile → List ℕ → List ℕ
with_file_written s file bytes =
    overwritten (block_place (s.tables + file.slot)) (table_of_blocks file.blocks)
    (overwritten (id_place s.tables file.slot) (to_be_bytes w32 file.id)
    (overwritten (row_place file.slot) (row_bytes file.name (length file.blocks) file.rev) bytes))

-- an image with a row cleared, and its id
abbrev pub with_row_cleared : Standing → (slot : ℕ) → List ℕ → List ℕ
with_row_cleared s slot bytes = overwritten (id_place s.tables slot) (zeros_of 4) (overwritten (row_place slot) (zeros_of 96) bytes)
