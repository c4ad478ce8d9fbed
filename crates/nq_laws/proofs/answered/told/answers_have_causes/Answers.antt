use Rattle.nq_laws.proofs.RunAnswers.{answers-have-causes}
use Rattle.nq_laws.proofs.answered.told.answers_have_causes.Goals as goal

pub returns : goal.returns
returns c = answers-have-causes
