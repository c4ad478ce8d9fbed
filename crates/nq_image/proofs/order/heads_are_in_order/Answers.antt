use Rattle.nq_image.proofs.Places.{boots-in-order, front-in-order}
use Rattle.nq_image.proofs.order.heads_are_in_order.Goals as goal

pub returns-clause-boots : goal.returns-clause-boots
returns-clause-boots c = boots-in-order

pub returns-clause-front : goal.returns-clause-front
returns-clause-front c = front-in-order
