use Rattle.nq_laws.proofs.SomeTold.{tellings-are-met}
use Rattle.nq_laws.proofs.answered.told.tellings_are_met.Goals as goal

pub returns : goal.returns
returns c = tellings-are-met
