use Rattle.std.proofs.Common.{◌≡◌, None, drop}
use Rattle.nq_plan.specs.Finding.{nearest}
use Rattle.nq_plan.proofs.finding.id_behind.Given as goal

abbrev pub invariant-loop-row : goal.invariant-loop-row
invariant-loop-row l = nearest l.after l.best (drop l.row-index l.rows) ≡ nearest l.after None l.rows
