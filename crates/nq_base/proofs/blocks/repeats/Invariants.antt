use Rattle.nq_base.proofs.Repeating.{GoesOn}
use Rattle.nq_base.proofs.blocks.repeats.Given as goal

abbrev pub invariant-loop-at : goal.invariant-loop-at
invariant-loop-at l = GoesOn l.bytes l.at l.same
