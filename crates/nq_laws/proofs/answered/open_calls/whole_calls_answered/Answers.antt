use Rattle.nq_laws.proofs.AllAnswered.{whole-calls-answered}
use Rattle.nq_laws.proofs.answered.open_calls.whole_calls_answered.Goals as goal

pub returns : goal.returns
returns c = whole-calls-answered
