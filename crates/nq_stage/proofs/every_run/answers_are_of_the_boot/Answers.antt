use Rattle.nq_stage.proofs.Boots.{boots-are-counted, pool-is-of-its-boot, crashes-lose-all, answers-are-of-the-boot}
use Rattle.nq_stage.proofs.every_run.answers_are_of_the_boot.Goals as goal

pub returns-clause-counted : goal.returns-clause-counted
returns-clause-counted c = boots-are-counted

pub returns-clause-pool : goal.returns-clause-pool
returns-clause-pool c = pool-is-of-its-boot

pub returns-clause-answers : goal.returns-clause-answers
returns-clause-answers c = answers-are-of-the-boot

pub returns-clause-lost : goal.returns-clause-lost
returns-clause-lost c = crashes-lose-all
