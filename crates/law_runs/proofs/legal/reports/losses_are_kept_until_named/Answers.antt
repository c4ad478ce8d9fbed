use Rattle.law_runs.proofs.ReportedRuns.{losses-fit}
use Rattle.law_runs.proofs.legal.reports.losses_are_kept_until_named.Goals as goal

pub returns : goal.returns
returns c = losses-fit
