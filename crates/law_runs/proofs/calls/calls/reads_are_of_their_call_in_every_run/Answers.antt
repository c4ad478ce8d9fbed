use Rattle.law_runs.proofs.OrderedCalls.{of-their-call-in-every-run}
use Rattle.law_runs.proofs.calls.calls.reads_are_of_their_call_in_every_run.Goals as goal

pub returns : goal.returns
returns c = of-their-call-in-every-run
