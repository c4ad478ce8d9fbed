use Rattle.law_runs.proofs.Laws.{pushes-in-every-run}
use Rattle.law_runs.proofs.files.contents.pushes_carry_their_last_write_in_every_run.Goals as goal

pub returns : goal.returns
returns c = pushes-in-every-run
