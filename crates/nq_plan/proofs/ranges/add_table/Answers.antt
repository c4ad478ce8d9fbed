use Rattle.std.proofs.Common.{arith, ap, length, ◌∙◌}
use Rattle.nq_plan.proofs.Sizes.{length-table}
use Rattle.nq_plan.proofs.ranges.add_table.Goals as goal

pub add-requires-clause-short : goal.add-requires-clause-short
add-requires-clause-short c =
    omega (arith, ap length (c.deref.ensures.value ∙ c.in_ok-bytes.ensures), length-table c.blocks-table.result.now, c.len.ensures.count, c.len.ensures.short)
