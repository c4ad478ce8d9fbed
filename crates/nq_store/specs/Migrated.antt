-- An image of version 1, and what a migration makes of it.
use Rattle.std.specs.Prelude.{◌≡◌, ◌≤◌, ◌<◌, ◌+◌, ℕ, List, [], ◌∷◌, ◌++◌, Option, length, count_by, is_some, slice_index, sum_by}
use Rattle.std.specs.Int.{w32, to_be_bytes}
use Rattle.nq_base.specs.declared.Heads.{Heads}
use Rattle.nq_image.specs.Image.{FoundOne}
use Rattle.nq_image.specs.Kept.{numbers_from}
use Rattle.nq_image.specs.Layout.{block_place, piece}
use Rattle.nq_image.specs.Rows.{blocks_of}
use Rattle.nq_image.specs.Writing.{heads_bytes, table_of_blocks}
use Rattle.nq_image.specs.declared.rows.Slot.{Slot}

-- how many blocks the files have together: in version 1 these are the first ones
abbrev pub blocks_in : List (Option Slot) → ℕ
blocks_in slots = sum_by blocks_of slots

-- how many rows are used
abbrev pub files_in : List (Option Slot) → ℕ
files_in slots = count_by (λ slot. is_some slot) slots

-- the new bytes are the same but for the record, up to a place, and are not fewer
pub record AgreeUpTo (end : ℕ) (old new : List ℕ) : Type 0 where
  pub no_shorter : length old ≤ length new
  pub rows : piece 0 28672 new ≡ piece 0 28672 old
  pub blocks : (k : ℕ) → 40960 ≤ k → k < end → slice_index new k ≡ slice_index old k

-- the numbers of version 2: the longest term is 60, and the next id is one above the number of files
abbrev pub heads_then : FoundOne → Heads
heads_then found = record { boot = found.boots.boot; opened = found.boots.opened; longest = 60; next = files_in found.rows.slots + 1 }

-- the version and the numbers of version 2, as they stand behind the name
abbrev pub numbers_then : FoundOne → List ℕ
numbers_then found = 50 ∷ (heads_bytes (heads_then found) ++ to_be_bytes w32 (blocks_in found.rows.slots))

-- from a place on stand the tables of these rows, whose blocks stand one behind another from one on
abbrev pub HasTables : (place block : ℕ) → List (Option Slot) → List ℕ → Type 0
HasTables place block [] bytes = Unit {0}
HasTables place block (slot ∷ slots) bytes =
    (piece place 4096 bytes ≡ table_of_blocks (numbers_from block (blocks_of slot))) × HasTables (place + 4096) (block + blocks_of slot) slots bytes

-- the new bytes have the numbers of version 2, and behind the blocks of the files their tables and ids: row n has the id n + 1, so
-- that the ids are spelled as a table of the first blocks is
pub record IsMigrated (found : FoundOne) (old new : List ℕ) : Type 0 where
  pub whole : block_place (blocks_in found.rows.slots) + 1052672 ≤ length new
  pub name : piece 0 7 new ≡ piece 0 7 old
  pub numbers : piece 7 21 new ≡ numbers_then found
  pub rows : piece 28 28644 new ≡ piece 28 28644 old
  pub blocks : (k : ℕ) → 40960 ≤ k → k < block_place (blocks_in found.rows.slots) → slice_index new k ≡ slice_index old k
  pub tables : HasTables (block_place (blocks_in found.rows.slots)) 0 found.rows.slots new
  pub ids : piece (block_place (blocks_in found.rows.slots) + 1048576) 4096 new ≡ table_of_blocks (numbers_from 0 (files_in found.rows.slots))
