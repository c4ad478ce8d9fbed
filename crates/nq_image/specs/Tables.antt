-- The tables of an image of version 2: for each row the physical numbers of its file's blocks, and behind them the ids.
use Rattle.std.specs.Prelude.{ℕ, ◌+◌, ◌-◌, ◌==◌, Bool, true, false, Result, Ok, Err, position, min, length, slice_index_or, slice_set, ◌&&◌, not}
use Rattle.std.specs.Prelude.{List, [], ◌∷◌, ◌++◌, Option, Some, None, drop, nat_lt, nat_le, zero, suc}
use Rattle.std.specs.List.{list_any}
use Rattle.nq_image.specs.declared.rows.Slot.{Slot}
use Rattle.nq_image.specs.Check.{Check, check}
use Rattle.nq_image.specs.Layout.{block_place, piece, word_in, are_zeros, whole_blocks}

-- how many physical blocks there are: those of all files, and those of the tables
abbrev pub most_physical : ℕ
most_physical = 16641

-- how many blocks the tables have: one for each row, and one for the ids
abbrev pub table_blocks : ℕ
table_blocks = 257

-- whether a physical block is one of the tables'
abbrev pub is_of_tables : (tables block : ℕ) → Bool
is_of_tables tables block = nat_le tables block && nat_lt block (tables + table_blocks)

-- whether a block was given to a file, by the marks of the physical blocks
abbrev pub is_marked : (marks : List Bool) (block : ℕ) → Bool
is_marked marks block = slice_index_or marks block false

-- an entry of a table is one above a physical number: there is one, it is none of the tables', and it was not given before
unfoldable pub is_entry : (tables : ℕ) (marks : List Bool) (entry : ℕ) → Bool
is_entry tables marks entry =
    nat_le 1 entry && nat_le entry most_physical && not (is_of_tables tables (entry - 1)) && not (is_marked marks (entry - 1))

-- the marks once the block of an entry is given
abbrev pub marked : (marks : List Bool) (entry : ℕ) → List Bool
marked marks entry = slice_set marks (entry - 1) true

-- what the rest of a table has to be, with so many entries left, by the marks of the blocks that were given before
unfoldable pub table_checks : (count tables place : ℕ) (marks : List Bool) (rest : List ℕ) → List Check
table_checks zero tables place marks rest = check place (are_zeros rest) ∷ []
table_checks (suc count) tables place marks rest =
    check place (is_entry tables marks (word_in 0 rest))
    ∷ table_checks count tables (place + 4) (marked marks (word_in 0 rest)) (drop 4 rest)

-- the marks behind the rest of a table
unfoldable pub marks_behind : (count : ℕ) (marks : List Bool) (rest : List ℕ) → List Bool
marks_behind zero marks rest = marks
marks_behind (suc count) marks rest = marks_behind count (marked marks (word_in 0 rest)) (drop 4 rest)

-- the physical numbers in the rest of a table
unfoldable pub table_of : (count : ℕ) (rest : List ℕ) → List ℕ
table_of zero rest = []
table_of (suc count) rest = (word_in 0 rest - 1) ∷ table_of count (drop 4 rest)

-- what the table of a row has to be: that of an unused row may be any
unfoldable pub slot_checks : (tables place : ℕ) (slot : Option Slot) (marks : List Bool) (table : List ℕ) → List Check
slot_checks tables place None marks table = []
slot_checks tables place (Some slot) marks table = table_checks slot.blocks tables place marks table

-- the physical blocks of a row
unfoldable pub slot_table : (slot : Option Slot) (table : List ℕ) → List ℕ
slot_table None table = []
slot_table (Some slot) table = table_of slot.blocks table

-- the marks behind the table of a row
unfoldable pub slot_marks : (slot : Option Slot) (marks : List Bool) (table : List ℕ) → List Bool
slot_marks None marks table = marks
slot_marks (Some slot) marks table = marks_behind slot.blocks marks table

-- what the tables of these rows have to be, of which the first stands at a place: each is held whole, and each is as its row
-- asks
unfoldable pub tables_checks : (tables place : ℕ) (slots : List (Option Slot)) (marks : List Bool) (bytes : List ℕ) → List Check
tables_checks tables place [] marks bytes = []
tables_checks tables place (slot ∷ slots) marks bytes =
    check place (nat_le (place + 4096) (length bytes))
    ∷ (slot_checks tables place slot marks (piece place 4096 bytes)
    ++ tables_checks tables (place + 4096) slots (slot_marks slot marks (piece place 4096 bytes)) bytes)

-- the physical blocks of these rows, row after row
unfoldable pub tables_blocks : (place : ℕ) (slots : List (Option Slot)) (bytes : List ℕ) → List ℕ
tables_blocks place [] bytes = []
tables_blocks place (slot ∷ slots) bytes = slot_table slot (piece place 4096 bytes) ++ tables_blocks (place + 4096) slots bytes

-- the marks behind the tables of these rows
unfoldable pub tables_marks : (place : ℕ) (slots : List (Option Slot)) (marks : List Bool) (bytes : List ℕ) → List Bool
tables_marks place [] marks bytes = marks
tables_marks place (slot ∷ slots) marks bytes = tables_marks (place + 4096) slots (slot_marks slot marks (piece place 4096 bytes)) bytes

-- the id of a used row is at least 1, below the next one, and none of these; that of an unused row is 0
unfoldable pub is_id : (next : ℕ) (ids : List ℕ) → Option Slot → (id : ℕ) → Bool
is_id next ids None id = id == 0
is_id next ids (Some slot) id = nat_le 1 id && nat_lt id next && not (list_any (λ known. known == id) ids)

-- what the block of the ids has to be, for these rows, behind these ids
unfoldable pub ids_checks : (next place : ℕ) (ids : List ℕ) (slots : List (Option Slot)) (rest : List ℕ) → List Check
ids_checks next place ids [] rest = check place (are_zeros rest) ∷ []
ids_checks next place ids (slot ∷ slots) rest =
    check place (is_id next ids slot (word_in 0 rest))
    ∷ ids_checks next (place + 4) (ids ++ word_in 0 rest ∷ []) slots (drop 4 rest)

-- the ids of these rows
unfoldable pub ids_of : (slots : List (Option Slot)) (rest : List ℕ) → List ℕ
ids_of [] rest = []
ids_of (slot ∷ slots) rest = word_in 0 rest ∷ ids_of slots (drop 4 rest)

-- the least physical block from this one on that has a mark
abbrev pub marked_from : (block : ℕ) (marks : List Bool) → Option ℕ
marked_from block marks = position (λ mark. mark) (drop block marks)

-- every block that a mark names is held, or the place of the least that is not
abbrev pub held_from : (block : ℕ) → Option ℕ → Result Unit ℕ
held_from block None = Ok tt
held_from block (Some behind) = Err (block_place (block + behind))

-- a disk of so many bytes holds every block that has a mark whole, or the place of the least that it does not
unfoldable pub held : (size : ℕ) (marks : List Bool) → Result Unit ℕ
held size marks =
    let whole = min (whole_blocks size) (length marks) in
    held_from whole (marked_from whole marks)
