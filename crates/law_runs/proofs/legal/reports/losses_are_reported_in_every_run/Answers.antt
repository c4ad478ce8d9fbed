use Rattle.law_runs.proofs.ReportedRuns.{reported-in-every-run}
use Rattle.law_runs.proofs.legal.reports.losses_are_reported_in_every_run.Goals as goal

pub returns : goal.returns
returns c = reported-in-every-run
