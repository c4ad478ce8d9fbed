use Rattle.law_rounds.proofs.Final.{deliveries-end}
use Rattle.law_rounds.proofs.deliveries.deliveries_end.Goals as goal

pub returns : goal.returns
returns c = deliveries-end
