use Rattle.law_runs.proofs.EndingWorlds.{endings-come-late}
use Rattle.law_runs.proofs.files.endings.endings_come_late_in_every_run.Goals as goal

pub returns : goal.returns
returns c = endings-come-late
