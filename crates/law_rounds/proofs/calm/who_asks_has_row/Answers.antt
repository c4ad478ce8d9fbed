use Rattle.law_rounds.proofs.SharedRows.{asks-has-row}
use Rattle.law_rounds.proofs.calm.who_asks_has_row.Goals as goal

pub returns : goal.returns
returns c = asks-has-row
