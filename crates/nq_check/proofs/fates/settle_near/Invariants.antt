use Rattle.nq_check.proofs.fates.settle_near.Given as goal

abbrev pub decreases-loop-left : goal.decreases-loop-left
decreases-loop-left l = l.left
