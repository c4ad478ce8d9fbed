use Rattle.nq_image.proofs.Placing.{row-stands}
use Rattle.nq_image.proofs.changes.a_file_is_changed_by_its_row.Goals as goal

pub returns : goal.returns
returns c s was file old new = row-stands s was file old new
