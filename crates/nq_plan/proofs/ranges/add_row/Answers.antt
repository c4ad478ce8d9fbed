use Rattle.std.proofs.Common.{arith, ap, length, ◌∙◌}
use Rattle.nq_plan.proofs.Sizes.{length-row}
use Rattle.nq_plan.proofs.ranges.add_row.Goals as goal

pub add-requires-clause-short : goal.add-requires-clause-short
add-requires-clause-short c =
    let name = c.as_bytes.ensures.name in
    omega (arith, ap length (c.deref.ensures.value ∙ c.in_ok-bytes.ensures), length-row c.args.row.now.name c.args.row.now.blocks c.args.row.now.rev, name.1)
