use Rattle.nq_whole.proofs.Orders.{keeps}
use Rattle.nq_whole.proofs.storing.Storing.take_answer.Goals as goal

pub returns-clause-order : goal.returns-clause-order
returns-clause-order c = keeps _ _ _ c.give.ensures.1
