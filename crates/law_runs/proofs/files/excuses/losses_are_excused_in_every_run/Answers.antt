use Rattle.law_runs.proofs.ChainWorlds.{chain-fits}
use Rattle.law_runs.proofs.ExcusesInRuns.{losses-excused}
use Rattle.law_runs.proofs.files.excuses.losses_are_excused_in_every_run.Goals as goal

pub returns : goal.returns
returns c = losses-excused chain-fits
