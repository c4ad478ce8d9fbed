-- What the tables say of a file.
use Rattle.std.specs.Prelude.{ℕ, ◌==◌, ◌&&◌, Bool, false, List, [], ◌∷◌, Option, Some, None, nat_eq, nat_lt, position, slice_index_or, if◌then◌else◌}
use Rattle.std.specs.Cmp.Lexicographic.{pointwise}
use Rattle.nq_base.specs.declared.FileRow.{FileRow}
use Rattle.nq_image.specs.Standing.{PlacedFile, Standing, row_blocks, row_for, row_id}

-- whether a row has the file of an id, or of a name
abbrev pub has_id : (id : ℕ) → Option PlacedFile → Bool
has_id id None = false
has_id id (Some file) = file.id == id

abbrev pub has_name : (name : List ℕ) → Option PlacedFile → Bool
has_name name None = false
has_name name (Some file) = pointwise nat_eq file.name name

-- which row has the file of an id
abbrev pub slot_of : (id : ℕ) → List (Option PlacedFile) → Option ℕ
slot_of id rows = position (has_id id) rows

-- what stands in a row that was found
abbrev pub file_in : List (Option PlacedFile) → Option ℕ → Option PlacedFile
file_in rows None = None
file_in rows (Some slot) = slice_index_or rows slot None

-- the row of a file, without its blocks
abbrev pub row_if : Option PlacedFile → Option FileRow
row_if None = None
row_if (Some file) = Some (row_for file)

-- the row of the file of an id, and of a name
abbrev pub row_of : Standing → (id : ℕ) → Option FileRow
row_of s id = row_if (file_in s.rows (slot_of id s.rows))

abbrev pub row_named : Standing → (name : List ℕ) → Option FileRow
row_named s name = row_if (file_in s.rows (position (has_name name) s.rows))

-- the lesser of two ids that are above another
abbrev pub nearer : (after id : ℕ) → Option ℕ → Option ℕ
nearer after id None = if nat_lt after id then Some id else None
nearer after id (Some best) = if nat_lt after id && nat_lt id best then Some id else Some best

-- the least id in these rows that is above another, or the best so far
abbrev pub nearest : (after : ℕ) → (best : Option ℕ) → List (Option PlacedFile) → Option ℕ
nearest after best [] = best
nearest after best (row ∷ rows) = nearest after (nearer after (row_id row) best) rows

-- the row of the file with the least id above this one
abbrev pub row_found : Standing → Option ℕ → Option FileRow
row_found s None = None
row_found s (Some id) = row_of s id

abbrev pub row_behind : Standing → (after : ℕ) → Option FileRow
row_behind s after = row_found s (nearest after None s.rows)

-- the physical blocks of a file; none where it is not kept
abbrev pub blocks_of : Standing → (id : ℕ) → List ℕ
blocks_of s id = row_blocks (file_in s.rows (slot_of id s.rows))
