use Rattle.nq_laws.proofs.SomeTold.{refusals-are-met}
use Rattle.nq_laws.proofs.answered.told.refusals_are_met.Goals as goal

pub returns : goal.returns
returns c = refusals-are-met
