use Rattle.law_runs.proofs.SomeCalls.{calls-are-met}
use Rattle.law_runs.proofs.calls.calls.calls_are_met.Goals as goal

pub returns : goal.returns
returns c = calls-are-met
