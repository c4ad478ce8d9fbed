use Rattle.std.proofs.Common.{◌≤◌}
use Rattle.nq_rules.specs.Sought.{passes}
use Rattle.nq_check.specs.Tables.{NoneBetween}
use Rattle.nq_check.proofs.along.is_between.Given as goal

abbrev pub invariant-loop-at : goal.invariant-loop-at
invariant-loop-at l = (l.at ≤ l.place) × NoneBetween (passes l.sought) l.whole l.at l.place

abbrev pub decreases-loop-at : goal.decreases-loop-at
decreases-loop-at l = l.at
