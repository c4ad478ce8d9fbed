use Rattle.nq_laws.proofs.SomeTorn.{pushes-are-torn}
use Rattle.nq_laws.proofs.torn.torn_runs_are_met.Goals as goal

pub returns : goal.returns
returns c = pushes-are-torn
