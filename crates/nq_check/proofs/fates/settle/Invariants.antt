use Rattle.nq_check.proofs.fates.settle.Given as goal

abbrev pub decreases-loop-at : goal.decreases-loop-at
decreases-loop-at l = l.at
