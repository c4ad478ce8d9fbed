use Rattle.nq_laws.proofs.RunAnswers.{refusals-are-of-their-calls}
use Rattle.nq_laws.proofs.answered.told.refusals_are_of_their_calls.Goals as goal

pub returns : goal.returns
returns c = refusals-are-of-their-calls
