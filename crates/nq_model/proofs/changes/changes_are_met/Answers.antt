use Rattle.nq_model.proofs.SomeChange.{changes-are-met}
use Rattle.nq_model.proofs.changes.changes_are_met.Goals as goal

pub returns : goal.returns
returns c = changes-are-met
