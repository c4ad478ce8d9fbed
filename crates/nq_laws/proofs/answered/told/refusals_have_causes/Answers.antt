use Rattle.nq_laws.proofs.RunTells.{refusals-have-causes}
use Rattle.nq_laws.proofs.answered.told.refusals_have_causes.Goals as goal

pub returns : goal.returns
returns c = refusals-have-causes
