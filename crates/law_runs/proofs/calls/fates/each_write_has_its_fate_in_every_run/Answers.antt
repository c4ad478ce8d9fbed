use Rattle.law_runs.proofs.FateLaws.{fates}
use Rattle.law_runs.proofs.calls.fates.each_write_has_its_fate_in_every_run.Goals as goal

pub returns : goal.returns
returns c = fates
