use Rattle.nq_name_server.proofs.Inner.{runs-inside}
use Rattle.nq_name_server.proofs.run.laws.runs_are_inner.Goals as goal

pub returns : goal.returns
returns c = runs-inside
