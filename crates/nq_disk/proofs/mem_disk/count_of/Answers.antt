use Rattle.std.proofs.Common.{arith}
use Rattle.std.proofs.lemmas.List.{get_or_default}
use Rattle.nq_disk.proofs.mem_disk.count_of.Goals as goal

pub returns-clause-bytes : goal.returns-clause-bytes
returns-clause-bytes c = λ k d lt. omega (arith, get_or_default c.args.bytes.now k d 0 lt, c.type_inv.bytes k)
