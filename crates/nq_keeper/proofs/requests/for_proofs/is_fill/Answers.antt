use Rattle.std.proofs.Common.{arith}
use Rattle.nq_keeper.proofs.Concluding.{filled-bytes}
use Rattle.nq_keeper.proofs.requests.for_proofs.is_fill.Goals as goal

pub returns : goal.returns
returns c = filled-bytes c.args._value (omega (arith, c.ranges._value.fits))
