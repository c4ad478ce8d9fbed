use Rattle.nq_laws.proofs.RefusedAnswers.{only-ranges-refuse}
use Rattle.nq_laws.proofs.answered.told.only_ranges_refuse.Goals as goal

pub returns : goal.returns
returns c = only-ranges-refuse
