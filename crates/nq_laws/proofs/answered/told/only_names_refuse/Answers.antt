use Rattle.nq_laws.proofs.RefusedAnswers.{only-names-refuse}
use Rattle.nq_laws.proofs.answered.told.only_names_refuse.Goals as goal

pub returns : goal.returns
returns c = only-names-refuse
