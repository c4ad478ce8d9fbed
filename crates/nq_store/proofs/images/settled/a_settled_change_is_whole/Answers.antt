use Rattle.nq_store.proofs.ImagesOpening.{change-settled, change-stands}
use Rattle.nq_store.proofs.images.settled.a_settled_change_is_whole.Goals as goal

pub returns-clause-written : goal.returns-clause-written
returns-clause-written c old new held change placed can closed is = change-settled old held change placed can new closed is

pub returns-clause-opens : goal.returns-clause-opens
returns-clause-opens c old image held change placed can long is = change-stands old held change placed can image long is
