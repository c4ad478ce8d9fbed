use Rattle.nq_image.proofs.Owning.{removed-kept}
use Rattle.nq_image.proofs.Placing.{cleared-stands}
use Rattle.nq_image.proofs.changes.a_cleared_row_is_no_file.Goals as goal

pub returns-clause-stands : goal.returns-clause-stands
returns-clause-stands c s slot old new = cleared-stands s slot old new

pub returns-clause-kept : goal.returns-clause-kept
returns-clause-kept c s was old new = removed-kept s was old new
