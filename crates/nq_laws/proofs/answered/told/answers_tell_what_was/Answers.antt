use Rattle.nq_laws.proofs.RunAnswers.{answers-tell-what-was}
use Rattle.nq_laws.proofs.answered.told.answers_tell_what_was.Goals as goal

pub returns : goal.returns
returns c = answers-tell-what-was
