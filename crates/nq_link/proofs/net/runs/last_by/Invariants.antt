use Rattle.std.proofs.Common.{◌≤◌, ◌-◌, length}
use Rattle.nq_link.specs.Runs.{IsRepeated}
use Rattle.nq_link.proofs.net.runs.last_by.Given as goal

abbrev pub invariant-loop-end : goal.invariant-loop-end
invariant-loop-end l = (l.place ≤ l.end) × (l.end ≤ length l.bytes) × IsRepeated l.bytes (l.place - 4) (l.end - l.place)

abbrev pub decreases-loop-end : goal.decreases-loop-end
decreases-loop-end l = length l.bytes - l.end
