-- Whoever asks for a lease where the table has room shares the file for the shortest term, or may cache it.
use Rattle.std.specs.Prelude.{◌≡◌, ◌≤◌, ◌<◌, ◌+◌, true, false, Some, length}
use Rattle.nq_base.specs.declared.Question.{Question}
use Rattle.nq_base.specs.declared.Row.{Row}
use Rattle.nq_base.specs.declared.Want.{Want}
use Rattle.nq_model.specs.protocol.Ask.{ask}
use Rattle.nq_model.specs.protocol.Profile.{shortest_term, most_rows}
use Rattle.nq_model.specs.protocol.Table.{Table, caches, find_row}

-- whoever wants a lease, and has no row of the file that does not let him cache, has none afterwards, or one that goes on for the shortest term
abbrev pub AskersShareLong : Type 0
AskersShareLong =
    (table : Table) (q : Question) (want : Want)
    → q.want ≡ Some want
    → length table.rows < most_rows
    → ((row : Row) → find_row q.file q.who.host table.rows ≡ Some row → caches row.mode ≡ true)
    → (row : Row)
    → find_row q.file q.who.host (ask table q).table.rows ≡ Some row
    → caches row.mode ≡ false
    → q.time + shortest_term ≤ row.until
