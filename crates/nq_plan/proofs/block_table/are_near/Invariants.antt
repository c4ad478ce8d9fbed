use Rattle.std.proofs.Common.{◌<◌, ℕ, get_or}
use Rattle.nq_plan.proofs.block_table.are_near.Given as goal

abbrev pub invariant-loop-block : goal.invariant-loop-block
invariant-loop-block l = (k : ℕ) → k < l.block-index → get_or l.blocks k 0 < 16641
