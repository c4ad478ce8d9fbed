use Rattle.nq_whole.proofs.Parts.{keeps}
use Rattle.nq_whole.proofs.getting.Getting.take_answer.Goals as goal

pub returns-clause-part : goal.returns-clause-part
returns-clause-part c = keeps _ _ _ _ c.step.ensures
