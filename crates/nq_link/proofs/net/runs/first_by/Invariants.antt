use Rattle.std.proofs.Common.{◌-◌, ◌≤◌}
use Rattle.nq_link.specs.Runs.{IsRepeated}
use Rattle.nq_link.proofs.net.runs.first_by.Given as goal

abbrev pub invariant-loop-at : goal.invariant-loop-at
invariant-loop-at l = (l.at ≤ l.place) × IsRepeated l.bytes l.at (l.place - l.at)

abbrev pub decreases-loop-at : goal.decreases-loop-at
decreases-loop-at l = l.at
