use Rattle.nq_check.specs.Rising.{Rises}
use Rattle.nq_check.proofs.Timing.{AreNoLater}
use Rattle.nq_check.proofs.rising.rising_front.Given as goal

abbrev pub invariant-loop-place : goal.invariant-loop-place
invariant-loop-place l = AreNoLater l.whole l.place l.time × Rises l.whole l.place
