use Rattle.nq_laws.proofs.WholeStored.{whole-stored}
use Rattle.nq_laws.proofs.answered.open_calls.whole_stored.Goals as goal

pub returns : goal.returns
returns c = whole-stored
