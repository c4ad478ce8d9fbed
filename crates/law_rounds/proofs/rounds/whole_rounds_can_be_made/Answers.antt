use Rattle.law_rounds.proofs.CalmOrders.{whole-rounds-can-be-made}
use Rattle.law_rounds.proofs.rounds.whole_rounds_can_be_made.Goals as goal

pub returns : goal.returns
returns c = whole-rounds-can-be-made
