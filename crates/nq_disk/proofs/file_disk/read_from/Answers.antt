use Rattle.std.proofs.Common.{arith}
use Rattle.std.proofs.lemmas.Grind.{common_steps}
use Rattle.nq_disk.proofs.Overwriting.{drop-further}
use Rattle.nq_disk.proofs.file_disk.read_from.Goals as goal

pub loop-count-preserved : goal.loop-count-preserved
loop-count-preserved c =
    let further = drop-further c.loop-count.count c.in_ok-came.came c.loop-count.into c.args.into.now c.loop-count.invariant.rest in
    grind (arith, common_steps, further)
