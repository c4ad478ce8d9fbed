use Rattle.law_runs.proofs.Standings.{synchronized-in-every-run}
use Rattle.law_runs.proofs.legal.oks.oks_are_kept_in_every_run.Goals as goal

pub returns : goal.returns
returns c = synchronized-in-every-run
