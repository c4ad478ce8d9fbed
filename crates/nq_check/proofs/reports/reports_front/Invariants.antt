use Rattle.std.proofs.Common.{◌≤◌, length}
use Rattle.nq_check.specs.Losses.{PassBetween, is_told}
use Rattle.nq_check.specs.Reports.{AreNext}
use Rattle.nq_check.proofs.reports.reports_front.Given as goal

abbrev pub invariant-loop-left : goal.invariant-loop-left
invariant-loop-left l = (l.left ≤ length l.whole) × AreNext l.whole l.left l.next.entries × PassBetween (is_told l.whole) l.whole l.left l.front

abbrev pub decreases-loop-left : goal.decreases-loop-left
decreases-loop-left l = l.left
