use Rattle.law_runs.proofs.FateLaws.{accounted}
use Rattle.law_runs.proofs.calls.fates.writes_are_accounted_in_every_run.Goals as goal

pub returns : goal.returns
returns c = accounted
