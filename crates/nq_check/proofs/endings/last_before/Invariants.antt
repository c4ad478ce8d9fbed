use Rattle.std.proofs.Common.{◌≤◌}
use Rattle.nq_check.specs.Links.{IsFree}
use Rattle.nq_check.proofs.endings.last_before.Given as goal

abbrev pub invariant-loop-at : goal.invariant-loop-at
invariant-loop-at l = (l.at ≤ l.from) × IsFree l.kind l.key l.whole l.at l.to

abbrev pub decreases-loop-at : goal.decreases-loop-at
decreases-loop-at l = l.at
