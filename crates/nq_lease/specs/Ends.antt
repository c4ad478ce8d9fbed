-- When rows end.
use Rattle.std.specs.Prelude.{ℕ, List, [], ◌∷◌, Option, Some, None, min, map}
use Rattle.nq_base.specs.declared.Row.{Row}
use Rattle.nq_model.specs.protocol.Table.{row_end}

-- the last time that a clock can show
abbrev pub last_time : ℕ
last_time = 18446744073709551615

-- when a row ends, or the last time that a clock can show
abbrev pub end_of : Row → ℕ
end_of row = min (row_end row) last_time

-- the lesser of a time and another, if there is one
abbrev pub lesser : ℕ → Option ℕ → ℕ
lesser time None = time
lesser time (Some other) = min time other

-- the least of these times
abbrev pub least : List ℕ → Option ℕ
least [] = None
least (time ∷ times) = Some (lesser time (least times))

-- the least end of all rows
abbrev pub earliest : List Row → Option ℕ
earliest rows = least (map end_of rows)
