use Rattle.law_runs.proofs.HeldLaws.{held-in-every-run}
use Rattle.law_runs.proofs.legal.held.kept_blocks_are_held_in_every_run.Goals as goal

pub returns : goal.returns
returns c = held-in-every-run
