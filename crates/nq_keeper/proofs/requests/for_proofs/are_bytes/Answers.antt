use Rattle.std.proofs.Common.{arith}
use Rattle.nq_keeper.proofs.Concluding.{all-below}
use Rattle.nq_keeper.proofs.requests.for_proofs.are_bytes.Goals as goal

pub returns : goal.returns
returns c = all-below c.args.bytes.now (λ k. omega (arith, c.type_inv.bytes k))
