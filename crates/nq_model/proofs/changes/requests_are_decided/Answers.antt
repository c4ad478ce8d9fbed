use Rattle.nq_model.proofs.EachChange.{requests-are-decided}
use Rattle.nq_model.proofs.changes.requests_are_decided.Goals as goal

pub returns : goal.returns
returns c = requests-are-decided
