-- Rows in order of files, then hosts.
use Rattle.std.specs.Prelude.{◌≡◌, ℕ, ◌==◌, Bool, true, ◌&&◌, ◌||◌, List, [], ◌∷◌, filter, nat_lt, nat_le}
use Rattle.nq_base.specs.declared.Row.{Row}
use Rattle.nq_base.specs.declared.RowKey.{RowKey}
use Rattle.nq_model.specs.protocol.Table.{row_before}

-- a row stands before each of these
abbrev pub StandsBefore : Row → List Row → Type 0
StandsBefore row [] = Unit {0}
StandsBefore row (r ∷ rows) = (row_before row r ≡ true) × StandsBefore row rows

-- each row stands before all later ones
abbrev pub AreInOrder : List Row → Type 0
AreInOrder [] = Unit {0}
AreInOrder (row ∷ rows) = StandsBefore row rows × AreInOrder rows

-- what a row is looked up by
abbrev pub key_of : Row → RowKey
key_of row = record { file = row.file; host = row.who.host }

-- whether a row stands before the place of a file and a host
abbrev pub is_before : (file host : ℕ) → Row → Bool
is_before file host row = nat_lt row.file file || (row.file == file && nat_lt row.who.host host)

-- whether a row is of a file
abbrev pub is_of : (file : ℕ) → Row → Bool
is_of file row = row.file == file

-- the rows of a file
abbrev pub rows_of : (file : ℕ) → List Row → List Row
rows_of file rows = filter (is_of file) rows

-- whether a row is of an earlier file
abbrev pub is_below : (file : ℕ) → Row → Bool
is_below file row = nat_lt row.file file

-- whether a row is of this file or an earlier one
abbrev pub is_upto : (file : ℕ) → Row → Bool
is_upto file row = nat_le row.file file
