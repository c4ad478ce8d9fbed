-- Which ranges of bytes a change writes to an image.
use Rattle.std.specs.Prelude.{ℕ, ◌+◌, ◌*◌, ◌==◌, List, [], ◌∷◌, ◌++◌, Option, Some, None, slice_get, if◌then◌else◌}
use Rattle.std.specs.Int.{w32, to_be_bytes}
use Rattle.nq_base.specs.declared.BlockChange.{BlockChange}
use Rattle.nq_base.specs.declared.Change.{Change}
use Rattle.nq_base.specs.declared.FileRow.{FileRow}
use Rattle.nq_base.specs.declared.Heads.{Heads}
use Rattle.nq_base.specs.declared.HostChange.{HostChange}
use Rattle.nq_image.specs.Layout.{block_place}
use Rattle.nq_image.specs.Standing.{PlacedFile, Standing}
use Rattle.nq_image.specs.Writing.{heads_bytes, host_bytes, row_bytes, table_of_blocks, zeros_of}
use Rattle.nq_disk.specs.Ranges.{Range}
use Rattle.nq_plan.specs.declared.placing.Placed.{Placed}
use Rattle.nq_plan.specs.Finding.{blocks_of, row_of, slot_of}

abbrev pub range : (place : ℕ) → (bytes : List ℕ) → Range
range place bytes = record { place = place; bytes = bytes }

-- the numbers of the server
abbrev pub heads_ranges : Option Heads → List Range
heads_ranges None = []
heads_ranges (Some heads) = range 8 (heads_bytes heads) ∷ []

-- the row of a host
abbrev pub host_ranges : Option HostChange → List Range
host_ranges None = []
host_ranges (Some change) = range (64 + 32 * change.host) (host_bytes change.row) ∷ []

-- the row of a file, its id, and the table of its blocks
abbrev pub row_range : (slot : ℕ) → FileRow → Range
row_range slot row = range (2112 + 96 * slot) (row_bytes row.name row.blocks row.rev)

abbrev pub id_range : (tables slot id : ℕ) → Range
id_range tables slot id = range (block_place (tables + 256) + 4 * slot) (to_be_bytes w32 id)

abbrev pub table_range : (tables slot : ℕ) → (blocks : List ℕ) → Range
table_range tables slot blocks = range (block_place (tables + slot)) (table_of_blocks blocks)

-- all three
abbrev pub whole_ranges : (tables : ℕ) → FileRow → PlacedFile → List Range
whole_ranges tables row file = row_range file.slot row ∷ id_range tables file.slot row.id ∷ table_range tables file.slot file.blocks ∷ []

-- a new file has all three, and so has a kept one whose length becomes another; else it is its row alone that changes
abbrev pub file_ranges : (tables : ℕ) → (known : Option FileRow) → FileRow → PlacedFile → List Range
file_ranges tables None row file = whole_ranges tables row file
file_ranges tables (Some known) row file = if known.blocks == row.blocks then row_range file.slot row ∷ [] else whole_ranges tables row file

abbrev pub placed_ranges : Standing → Option FileRow → Option Placed → List Range
placed_ranges s (Some row) (Some placed) = file_ranges s.tables (row_of s row.id) row placed.file
placed_ranges s _ _ = []

-- the blocks of a file as it stands after the change of a file
abbrev pub blocks_then : Standing → Option Placed → (id : ℕ) → List ℕ
blocks_then s None id = blocks_of s id
blocks_then s (Some placed) id = if placed.file.id == id then placed.file.blocks else blocks_of s id

-- the body of a block
abbrev pub body_range : (block : Option ℕ) → (body : List ℕ) → List Range
body_range None body = []
body_range (Some block) body = range (block_place block) body ∷ []

abbrev pub body_ranges : Standing → Option Placed → Option BlockChange → List Range
body_ranges s placed None = []
body_ranges s placed (Some change) = body_range (slice_get (blocks_then s placed change.file) change.block) change.body

-- a file that is taken away: its row and its id become zeros
abbrev pub removal_ranges : (tables : ℕ) → Option ℕ → List Range
removal_ranges tables None = []
removal_ranges tables (Some slot) = range (2112 + 96 * slot) (zeros_of 96) ∷ id_range tables slot 0 ∷ []

abbrev pub removed_ranges : Standing → Option ℕ → List Range
removed_ranges s None = []
removed_ranges s (Some id) = removal_ranges s.tables (slot_of id s.rows)

-- all ranges of a change whose file comes to stand somewhere, in this order: the numbers, a host, a file, a block, a file that goes
abbrev pub ranges_of : Standing → Change → Option Placed → List Range
ranges_of s change placed =
    heads_ranges change.heads
    ++ (host_ranges change.host
    ++ (placed_ranges s change.file placed
    ++ (body_ranges s placed change.block ++ removed_ranges s change.removed)))
