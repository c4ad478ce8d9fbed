use Rattle.std.proofs.Common.{sym}
use Rattle.nq_whole.proofs.Heading.{none-repeated}
use Rattle.nq_whole.proofs.heads.none_filled.Goals as goal

pub returns : goal.returns
returns c = sym (none-repeated c.args.value)
