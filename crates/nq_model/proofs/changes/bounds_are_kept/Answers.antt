use Rattle.nq_model.proofs.EachChange.{bounds-are-kept}
use Rattle.nq_model.proofs.changes.bounds_are_kept.Goals as goal

pub returns : goal.returns
returns c = bounds-are-kept
