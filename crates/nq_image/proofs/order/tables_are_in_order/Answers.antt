use Rattle.nq_image.proofs.Places.{tables-in-order, ids-in-order}
use Rattle.nq_image.proofs.order.tables_are_in_order.Goals as goal

pub returns-clause-tables : goal.returns-clause-tables
returns-clause-tables c = tables-in-order

pub returns-clause-ids : goal.returns-clause-ids
returns-clause-ids c = ids-in-order
