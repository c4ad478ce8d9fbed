use Rattle.nq_laws.proofs.FullRuns.{losses-are-named}
use Rattle.nq_laws.proofs.answered.told.losses_are_named.Goals as goal

pub returns : goal.returns
returns c = losses-are-named
