use Rattle.nq_laws.proofs.SomeRuns.{laws-are-met}
use Rattle.nq_laws.proofs.met.laws_are_met.Goals as goal

pub returns : goal.returns
returns c = laws-are-met
