use Rattle.law_runs.proofs.FateLaws.{waiting}
use Rattle.law_runs.proofs.calls.fates.waiting_writes_are_unsaved_in_every_run.Goals as goal

pub returns : goal.returns
returns c = waiting
