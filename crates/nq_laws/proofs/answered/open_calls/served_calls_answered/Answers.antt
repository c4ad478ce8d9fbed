use Rattle.nq_laws.proofs.AllAnswered.{served-calls-answered}
use Rattle.nq_laws.proofs.answered.open_calls.served_calls_answered.Goals as goal

pub returns : goal.returns
returns c = served-calls-answered
