use Rattle.nq_laws.proofs.SomeCalls.{open-calls-met}
use Rattle.nq_laws.proofs.answered.open_calls.open_calls_are_met.Goals as goal

pub returns : goal.returns
returns c = open-calls-met
