-- What a migration writes to a disk with an image of version 1.
use Rattle.std.specs.Prelude.{◌≡◌, ◌≤◌, ◌<◌, ◌+◌, ℕ, List, [], ◌∷◌, Option, length, slice_index}
use Rattle.nq_disk.specs.Bytes.{written}
use Rattle.nq_image.specs.Image.{FoundOne}
use Rattle.nq_image.specs.Kept.{numbers_from}
use Rattle.nq_image.specs.Layout.{block_place}
use Rattle.nq_image.specs.Rows.{blocks_of}
use Rattle.nq_image.specs.Writing.{table_of_blocks}
use Rattle.nq_image.specs.declared.Slot.{Slot}
use Rattle.nq_disk.specs.Ranges.{Range}
use Rattle.nq_store.specs.Migrated.{blocks_in, files_in, numbers_then}

-- the bytes once the tables of these rows were written from a place on, whose blocks stand one behind another from one on
abbrev pub tabled : (place block : ℕ) → List (Option Slot) → List ℕ → List ℕ
tabled place block [] bytes = bytes
tabled place block (slot ∷ slots) bytes =
    tabled (place + 4096) (block + blocks_of slot) slots (written place (table_of_blocks (numbers_from block (blocks_of slot))) bytes)

-- the bytes once the tables were written behind the blocks of the files, and the ids behind the tables
abbrev pub prepared : List (Option Slot) → List ℕ → List ℕ
prepared slots bytes =
    written (block_place (blocks_in slots + 256)) (table_of_blocks (numbers_from 0 (files_in slots))) (tabled (block_place (blocks_in slots)) 0 slots bytes)

-- the change that makes an image one of version 2: its version, and the numbers of that version
abbrev pub change_of : FoundOne → List Range
change_of found = record { place = 7; bytes = numbers_then found } ∷ []

-- the new bytes are the same below a place, and are not fewer
pub record SameBelow (end : ℕ) (old new : List ℕ) : Type 0 where
  pub no_shorter : length old ≤ length new
  pub same : (k : ℕ) → k < end → slice_index new k ≡ slice_index old k
