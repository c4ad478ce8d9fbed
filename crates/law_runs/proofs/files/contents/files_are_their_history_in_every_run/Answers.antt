use Rattle.law_runs.proofs.Laws.{files-in-every-run}
use Rattle.law_runs.proofs.files.contents.files_are_their_history_in_every_run.Goals as goal

pub returns : goal.returns
returns c = files-in-every-run
