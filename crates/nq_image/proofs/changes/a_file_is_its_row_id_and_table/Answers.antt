use Rattle.nq_image.proofs.Placing.{file-stands}
use Rattle.nq_image.proofs.changes.a_file_is_its_row_id_and_table.Goals as goal

pub returns : goal.returns
returns c s file old new = file-stands s file old new
