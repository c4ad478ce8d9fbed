use Rattle.nq_store.proofs.Leaving.{as-before, below-closed, below-stands}
use Rattle.nq_store.proofs.images.stopping.what_stands_behind_the_files_may_be_any.Goals as goal

pub returns-clause-closed : goal.returns-clause-closed
returns-clause-closed c found old image is closed same = below-closed found old is closed image same

pub returns-clause-stands : goal.returns-clause-stands
returns-clause-stands c found old image is closed same = below-stands found old is closed image same

pub returns-clause-opens : goal.returns-clause-opens
returns-clause-opens c found old mid image is closed same opens = as-before found old is closed mid image same opens
