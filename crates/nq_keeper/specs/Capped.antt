-- What code keeps where the definitions go on: a revision stays at the end of its type.
use Rattle.std.specs.Prelude.{ℕ, Option, Some, None, min}
use Rattle.nq_base.specs.declared.FileRow.{FileRow}

-- the last revision, and the last value
abbrev pub last_number : ℕ
last_number = 18446744073709551615

-- a file's row with a revision that a revision can have
unfoldable pub capped_row : FileRow → FileRow
capped_row row = record row { rev = min row.rev last_number }

abbrev pub capped_file : Option FileRow → Option FileRow
capped_file None = None
capped_file (Some row) = Some (capped_row row)
