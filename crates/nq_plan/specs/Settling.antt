-- What a store has in memory after a change.
use Rattle.std.specs.Prelude.{ℕ, Bool, true, false, List, [], ◌∷◌, Option, Some, None, slice_set}
use Rattle.nq_base.specs.declared.Change.{Change}
use Rattle.nq_image.specs.Standing.{PlacedFile, row_blocks, with_placed}
use Rattle.nq_model.specs.protocol.Change.{heads_with, hosts_with}
use Rattle.nq_plan.specs.declared.placing.Placed.{Placed}
use Rattle.nq_plan.specs.Held.{HeldTables}
use Rattle.nq_plan.specs.Finding.{file_in, slot_of}

-- the marks once all of these blocks are given, or free
abbrev pub marked_all : (given : Bool) → List ℕ → List Bool → List Bool
marked_all given [] marks = marks
marked_all given (block ∷ blocks) marks = marked_all given blocks (slice_set marks block given)

-- the tables once a file stands in a row, which it had in another one or in none before. Blocks that it had and has no more become
-- free, and those that it gets are given
unfoldable pub with_file_at : HeldTables → (slot : ℕ) → (known : Option ℕ) → PlacedFile → HeldTables
with_file_at held slot known file = record {
  standing = with_placed held.standing slot (Some file);
  marks = marked_all true file.blocks (marked_all false (row_blocks (file_in held.standing.rows known)) held.marks);
}

-- the same of the row that the file knows
abbrev pub with_file : HeldTables → PlacedFile → HeldTables
with_file held file = with_file_at held file.slot (slot_of file.id held.standing.rows) file

abbrev pub with_file_if : HeldTables → Option Placed → HeldTables
with_file_if held None = held
with_file_if held (Some placed) = with_file held placed.file

-- the tables without the file of a row
unfoldable pub without_slot : HeldTables → (slot : ℕ) → HeldTables
without_slot held slot = record {
  standing = with_placed held.standing slot None;
  marks = marked_all false (row_blocks (file_in held.standing.rows (Some slot))) held.marks;
}

abbrev pub without_at : HeldTables → Option ℕ → HeldTables
without_at held None = held
without_at held (Some slot) = without_slot held slot

abbrev pub without : HeldTables → Option ℕ → HeldTables
without held None = held
without held (Some id) = without_at held (slot_of id held.standing.rows)

-- the tables with the rows of hosts and the numbers of a change
unfoldable pub with_rows : HeldTables → Change → HeldTables
with_rows held change = record held {
  standing = record held.standing {
    heads = heads_with change.heads held.standing.heads;
    hosts = hosts_with change.host held.standing.hosts;
  };
}

-- the tables after a change whose file comes to stand somewhere
abbrev pub settled : HeldTables → Change → Option Placed → HeldTables
settled held change placed = without (with_file_if (with_rows held change) placed) change.removed
