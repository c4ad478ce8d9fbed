use Rattle.law_runs.proofs.ZeroRuns.{untouched}
use Rattle.law_runs.proofs.legal.zeros.untouched_blocks_are_zeros_in_every_run.Goals as goal

pub returns : goal.returns
returns c = untouched
