use Rattle.nq_image.proofs.Owning.{new-file-kept, same-file-kept}
use Rattle.nq_image.proofs.changes.a_file_is_kept_once_it_is_written.Goals as goal

pub returns-clause-made : goal.returns-clause-made
returns-clause-made c s file old new = new-file-kept s file old new

pub returns-clause-changed : goal.returns-clause-changed
returns-clause-changed c s was file old new = same-file-kept s was file old new
