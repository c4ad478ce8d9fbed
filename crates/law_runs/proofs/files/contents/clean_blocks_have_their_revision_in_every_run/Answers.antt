use Rattle.law_runs.proofs.Laws.{clean-in-every-run}
use Rattle.law_runs.proofs.files.contents.clean_blocks_have_their_revision_in_every_run.Goals as goal

pub returns : goal.returns
returns c = clean-in-every-run
