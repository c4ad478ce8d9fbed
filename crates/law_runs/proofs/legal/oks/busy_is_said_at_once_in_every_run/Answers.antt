use Rattle.law_runs.proofs.Standings.{busy-in-every-run}
use Rattle.law_runs.proofs.legal.oks.busy_is_said_at_once_in_every_run.Goals as goal

pub returns : goal.returns
returns c = busy-in-every-run
