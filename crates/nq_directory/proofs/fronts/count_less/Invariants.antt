use Rattle.nq_directory.proofs.Halving.{IsAmong}
use Rattle.nq_directory.proofs.fronts.count_less.Given as goal

abbrev pub invariant-loop-size : goal.invariant-loop-size
invariant-loop-size l = IsAmong l.numbers l.number l.base l.size

abbrev pub decreases-loop-size : goal.decreases-loop-size
decreases-loop-size l = l.size
