use Rattle.std.proofs.Common.{◌≡◌, drop}
use Rattle.nq_plan.specs.Settling.{marked_all}
use Rattle.nq_plan.proofs.settling.mark_all.Given as goal

abbrev pub invariant-loop-block : goal.invariant-loop-block
invariant-loop-block l = marked_all l.given (drop l.block-index l.blocks) l.marks ≡ marked_all l.given l.blocks l.fn.marks
