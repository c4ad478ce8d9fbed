use Rattle.law_rounds.proofs.RowEnds.{rows-end-soon}
use Rattle.law_rounds.proofs.calm.rows_end_soon.Goals as goal

pub returns : goal.returns
returns c = rows-end-soon
