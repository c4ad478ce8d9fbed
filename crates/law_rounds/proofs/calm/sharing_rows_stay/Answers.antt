use Rattle.law_rounds.proofs.SharingRows.{sharing-rows}
use Rattle.law_rounds.proofs.calm.sharing_rows_stay.Goals as goal

pub returns : goal.returns
returns c = sharing-rows
