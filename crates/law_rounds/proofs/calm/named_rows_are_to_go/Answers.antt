use Rattle.law_rounds.proofs.NamedRows.{named-rows}
use Rattle.law_rounds.proofs.calm.named_rows_are_to_go.Goals as goal

pub returns : goal.returns
returns c = named-rows
