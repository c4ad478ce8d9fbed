use Rattle.std.proofs.Common.{◌<◌, ◌-◌, length}
use Rattle.nq_check.specs.Apart.{AreApart}
use Rattle.nq_check.proofs.apart.are_apart.Given as goal

abbrev pub invariant-loop-next : goal.invariant-loop-next
invariant-loop-next l = (0 < l.next) × AreApart l.sorted l.next

abbrev pub decreases-loop-next : goal.decreases-loop-next
decreases-loop-next l = length l.sorted - l.next
