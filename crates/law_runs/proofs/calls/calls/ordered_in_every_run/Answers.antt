use Rattle.law_runs.proofs.OrderedCalls.{ordered-in-every-run}
use Rattle.law_runs.proofs.calls.calls.ordered_in_every_run.Goals as goal

pub returns : goal.returns
returns c = ordered-in-every-run
