-- The rows of directories after a question without a wish, and without the asker's older row.
use Rattle.std.proofs.Common.{◌≡◌, ◌==◌, ℕ, Bool, true, false, not, List, Option, Some, None, if◌then◌else◌, ap}
use Rattle.nq_base.specs.declared.Question.{Question}
use Rattle.nq_base.specs.declared.Row.{Row}
use Rattle.nq_base.specs.declared.Who.{Who}
use Rattle.nq_model.specs.protocol.Ask.{ask, ask_freely, ask_past, conflicts, free, marked, put_off, with_waiting}
use Rattle.nq_model.specs.protocol.Table.{Table, drop_row, find_row, is_row_of, with_rows}
use Rattle.nq_server.proofs.TickedRows.{some-run}
use Rattle.nq_server.specs.Sound.{RowsRun}
use Rattle.std.specs.List.{find}
use Rattle.nq_name_server.specs.Serving.{own_again}

past-draws : (table : Table) (q : Question) (clash own : Option Row) → q.want ≡ None → (ask_past table q clash own).table.drawn ≡ table.drawn
unfolding put_off with_rows free
past-draws table q (Some clash) own none =
    ap (λ w. (with_waiting (with_rows table (marked q.file q.who.host q.access table.rows)) q w own).drawn) none
past-draws table q None own none = ap (λ w. (ask_freely table q w own).table.drawn) none

-- who wants no lease draws no tag
pub unwanted_draws : (table : Table) (q : Question) → q.want ≡ None → (ask table q).table.drawn ≡ table.drawn
unwanted_draws table q none =
    past-draws table q (find (conflicts q.file q.who.host q.access) table.rows) (find_row q.file q.who.host table.rows) none

-- the rows run, where they ran before
pub again_runs : (time : ℕ) (who : Who) (number : ℕ) (own : Option Row) (rows : List Row) → RowsRun time rows
    → RowsRun time (own_again who number own rows)
again_runs time who number None rows h = h
again_runs time who number (Some row) rows h = step (row.who.inc == who.inc)
  where
    step : (b : Bool) → RowsRun time (if b then rows else drop_row number who.host rows)
    step true = h
    step false = some-run time (λ r. not (is_row_of number who.host r)) rows h
