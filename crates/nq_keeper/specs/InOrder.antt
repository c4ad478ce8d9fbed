-- Files in order of their ids, as a keeper in memory has them.
use Rattle.std.specs.Prelude.{◌≡◌, ◌≤◌, ◌<◌, ℕ, Bool, List, Option, Some, None, All, nat_lt, nat_le, length, ◌==◌, if◌then◌else◌}
use Rattle.nq_base.specs.declared.FileRow.{FileRow}
use Rattle.nq_model.specs.protocol.Change.{AreApart, with_file}
use Rattle.nq_model.specs.protocol.Kept.{File, blocks_in_all, find_file, find_name}
use Rattle.nq_model.specs.protocol.Profile.{most_files, most_blocks, most_blocks_of_file}

-- whether a file stands before the place of an id
abbrev pub is_below : (id : ℕ) → File → Bool
is_below id file = nat_lt file.id id

-- whether a file stands before the place behind an id
abbrev pub is_upto : (id : ℕ) → File → Bool
is_upto id file = nat_le file.id id

-- a file, if it has this id
abbrev pub of_id : (id : ℕ) → Option File → Option File
of_id id None = None
of_id id (Some file) = if file.id == id then Some file else None

-- there are files in order, not too many and not too long, with so many blocks together
pub record AreStored (files : List File) (blocks : ℕ) : Type 0 where
  pub apart : AreApart files
  pub few_files : length files ≤ most_files
  pub few_blocks : blocks_in_all files ≤ most_blocks
  pub count : blocks ≡ blocks_in_all files

-- a row is that of one of these files, whose name stays, or of a new one, with an id above all others and a name of its own
abbrev pub IsRowAmong : FileRow → List File → Option File → Type 0
IsRowAmong row files (Some file) = row.name ≡ file.name
IsRowAmong row files None = All (λ file. file.id < row.id) files × (find_name row.name files ≡ None)

-- the file of a row can stand among these files
pub record FitsAmong (row : FileRow) (files : List File) : Type 0 where
  pub among : IsRowAmong row files (find_file row.id files)
  pub short : row.blocks ≤ most_blocks_of_file
  pub few_files : length (with_file row files) ≤ most_files
  pub few_blocks : blocks_in_all (with_file row files) ≤ most_blocks
