use Rattle.nq_stage.proofs.NotStored.{beside-stores-nothing, unstaged-stores-nothing}
use Rattle.nq_stage.proofs.Schedules.{staged-are-unsaved}
use Rattle.nq_stage.proofs.every_run.staged_is_not_stored.Goals as goal

pub returns-clause-beside : goal.returns-clause-beside
returns-clause-beside c = beside-stores-nothing

pub returns-clause-unstaged : goal.returns-clause-unstaged
returns-clause-unstaged c = unstaged-stores-nothing

pub returns-clause-unsaved : goal.returns-clause-unsaved
returns-clause-unsaved c = staged-are-unsaved
