use Rattle.nq_stage.proofs.Again.{stages-are-read, commits-are-read, pushes-are-read, staged-is-read, unstaged-is-read}
use Rattle.nq_stage.proofs.laws.messages_are_read.Goals as goal

pub returns-clause-stages : goal.returns-clause-stages
returns-clause-stages c = stages-are-read

pub returns-clause-commits : goal.returns-clause-commits
returns-clause-commits c = commits-are-read

pub returns-clause-pushes : goal.returns-clause-pushes
returns-clause-pushes c = pushes-are-read

pub returns-clause-staged : goal.returns-clause-staged
returns-clause-staged c = staged-is-read

pub returns-clause-unstaged : goal.returns-clause-unstaged
returns-clause-unstaged c = unstaged-is-read
