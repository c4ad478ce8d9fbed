use Rattle.law_runs.proofs.FilledRuns.{filled-in-every-run}
use Rattle.law_runs.proofs.calls.filled.bodies_are_filled_in_every_run.Goals as goal

pub returns : goal.returns
returns c = filled-in-every-run
