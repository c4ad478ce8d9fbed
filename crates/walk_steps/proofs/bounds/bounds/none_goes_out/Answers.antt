use Rattle.walk_steps.proofs.NoneOut.{none-goes-out}
use Rattle.walk_steps.proofs.bounds.bounds.none_goes_out.Goals as goal

pub returns : goal.returns
returns c = none-goes-out
