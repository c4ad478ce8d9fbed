use Rattle.law_rounds.proofs.RowEnds.{recoveries-end-soon}
use Rattle.law_rounds.proofs.calm.recoveries_end_soon.Goals as goal

pub returns : goal.returns
returns c = recoveries-end-soon
