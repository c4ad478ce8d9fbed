use Rattle.nq_stage.proofs.SomeStaged.{staging-is-met}
use Rattle.nq_stage.proofs.every_run.staging_is_met.Goals as goal

pub returns : goal.returns
returns c = staging-is-met
