use Rattle.std.proofs.Common.{◌≡◌, ◌≤◌, take, vec_capacity}
use Rattle.nq_lease.specs.Kept.{AreEndsOf, rows_ending}
use Rattle.nq_lease.proofs.ends.fill.Given as goal

abbrev pub invariant-loop-row : goal.invariant-loop-row
invariant-loop-row l =
    (AreEndsOf (take l.row-index l.rows) l.ends.items) × (rows_ending l.ends.items ≡ l.row-index) × (vec_capacity l.fn.ends ≤ vec_capacity l.ends)
