use Rattle.law_runs.proofs.Laws.{done-in-every-run}
use Rattle.law_runs.proofs.files.contents.done_requests_are_changes_in_every_run.Goals as goal

pub returns : goal.returns
returns c = done-in-every-run
