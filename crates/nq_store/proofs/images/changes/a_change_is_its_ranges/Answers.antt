use Rattle.nq_store.proofs.Fitting.{change-fits}
use Rattle.nq_store.proofs.Whole.{change-is-written}
use Rattle.nq_store.proofs.images.changes.a_change_is_its_ranges.Goals as goal

pub returns-clause-written : goal.returns-clause-written
returns-clause-written c bytes held change placed can = change-is-written bytes held change placed can

pub returns-clause-fits : goal.returns-clause-fits
returns-clause-fits c bytes held change placed can = change-fits bytes held change placed can
