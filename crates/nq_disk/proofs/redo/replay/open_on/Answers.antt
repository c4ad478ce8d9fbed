use Rattle.std.proofs.Common.{arith, refl}
use Rattle.nq_disk.proofs.redo.replay.open_on.Goals as goal

pub returns-in-Err-clause-leaves : goal.returns-in-Err-clause-leaves
returns-in-Err-clause-leaves g c = λ old told long image left. (image, g.met.D.Disk.leaves_now c.args.disk.now image left, (omega arith, refl))
