use Rattle.nq_image.proofs.Places.{hosts-in-order, rows-in-order}
use Rattle.nq_image.proofs.order.rows_are_in_order.Goals as goal

pub returns-clause-hosts : goal.returns-clause-hosts
returns-clause-hosts c = hosts-in-order

pub returns-clause-files : goal.returns-clause-files
returns-clause-files c = rows-in-order
