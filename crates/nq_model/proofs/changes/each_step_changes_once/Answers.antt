use Rattle.nq_model.proofs.EachChange.{each-step-changes-once}
use Rattle.nq_model.proofs.changes.each_step_changes_once.Goals as goal

pub returns : goal.returns
returns c = each-step-changes-once
