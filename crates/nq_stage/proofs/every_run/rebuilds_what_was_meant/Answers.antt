use Rattle.nq_stage.proofs.Rebuilt.{rebuilds-what-was-meant}
use Rattle.nq_stage.proofs.every_run.rebuilds_what_was_meant.Goals as goal

pub returns : goal.returns
returns c = rebuilds-what-was-meant
