use Rattle.law_runs.proofs.ChainWorlds.{chain-fits}
use Rattle.law_runs.proofs.ExcusesInRuns.{bound-or-excused}
use Rattle.law_runs.proofs.files.excuses.unsaved_files_are_bound_or_excused_in_every_run.Goals as goal

pub returns : goal.returns
returns c = bound-or-excused chain-fits
