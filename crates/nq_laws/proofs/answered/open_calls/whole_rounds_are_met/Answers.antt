use Rattle.nq_laws.proofs.SomeOrders.{whole-rounds-met}
use Rattle.nq_laws.proofs.answered.open_calls.whole_rounds_are_met.Goals as goal

pub returns : goal.returns
returns c = whole-rounds-met
