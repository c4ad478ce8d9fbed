-- Who has to wait for a lease shares the file meanwhile.
use Rattle.std.specs.Prelude.{◌≡◌, ◌≤◌, ◌<◌, ℕ, ◌+◌, false, List, Some, None, length}
use Rattle.nq_base.specs.declared.Asked.{Asked}
use Rattle.nq_base.specs.declared.Clash.{Clash}
use Rattle.nq_base.specs.declared.Question.{Question}
use Rattle.nq_base.specs.declared.Row.{Row}
use Rattle.nq_base.specs.declared.Want.{Want}
use Rattle.nq_model.specs.protocol.Ask.{ask}
use Rattle.nq_model.specs.protocol.Profile.{shortest_term, most_rows}
use Rattle.nq_model.specs.protocol.Table.{Table, caches, find_row}

-- a host has a row of a file that does not let it cache, and that goes on for so many ticks from now on
pub record IsSharedFor (ticks now : ℕ) (rows : List Row) (file host : ℕ) : Type 0 where
  pub row : Row
  pub there : find_row file host rows ≡ Some row
  pub sharing : caches row.mode ≡ false
  pub lasts : now + ticks ≤ row.until

-- whoever wants a lease, has no row of the file and is put off, where the table has room for one more, has a row then that does not let him cache, and
-- that goes on for the shortest term at least
abbrev pub WaitersShare : Type 0
WaitersShare =
    (table : Table) (q : Question) (want : Want) (clash : Clash)
    → q.want ≡ Some want
    → find_row q.file q.who.host table.rows ≡ None
    → length table.rows < most_rows
    → (ask table q).asked ≡ Asked.TryLater clash
    → IsSharedFor shortest_term q.time (ask table q).table.rows q.file q.who.host
