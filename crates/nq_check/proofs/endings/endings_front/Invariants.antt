use Rattle.nq_check.specs.Losses.{PassBetween, is_ended}
use Rattle.nq_check.proofs.endings.endings_front.Given as goal

abbrev pub invariant-loop-place : goal.invariant-loop-place
invariant-loop-place l = PassBetween (is_ended l.whole) l.whole 0 l.place
