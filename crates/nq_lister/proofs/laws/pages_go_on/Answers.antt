use Rattle.nq_lister.proofs.GoingOn.{pages_go_on}
use Rattle.nq_lister.proofs.laws.pages_go_on.Goals as goal

pub returns : goal.returns
returns c = pages_go_on
