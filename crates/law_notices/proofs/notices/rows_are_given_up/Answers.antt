use Rattle.law_notices.proofs.RowsGo.{rows-are-given-up}
use Rattle.law_notices.proofs.notices.rows_are_given_up.Goals as goal

pub returns : goal.returns
returns c = rows-are-given-up
