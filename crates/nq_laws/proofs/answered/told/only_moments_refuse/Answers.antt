use Rattle.nq_laws.proofs.RefusedAnswers.{only-moments-refuse}
use Rattle.nq_laws.proofs.answered.told.only_moments_refuse.Goals as goal

pub returns : goal.returns
returns c = only-moments-refuse
