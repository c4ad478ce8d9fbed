use Rattle.nq_model.proofs.Accounts.{covers_once}
use Rattle.nq_model.proofs.journals.writes_are_covered_once.Goals as goal

pub returns : goal.returns
returns c = covers_once
