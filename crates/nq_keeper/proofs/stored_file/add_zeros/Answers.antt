use Rattle.std.proofs.Common.{arith}
use Rattle.std.proofs.lemmas.Grind.{common_steps}
use Rattle.nq_keeper.proofs.Edits.{zeros-more}
use Rattle.nq_keeper.proofs.stored_file.add_zeros.Goals as goal

pub loop-count-preserved : goal.loop-count-preserved
loop-count-preserved c =
    let more = zeros-more c.args.blocks.now.items c.loop-count._count c.fill.result c.fill.ensures.bytes in
    (grind (arith, common_steps, more), grind (arith, common_steps), grind (arith, common_steps))
