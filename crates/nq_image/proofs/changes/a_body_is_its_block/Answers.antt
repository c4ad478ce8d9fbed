use Rattle.nq_image.proofs.Owning.{body-stands, body-written-kept}
use Rattle.nq_image.proofs.changes.a_body_is_its_block.Goals as goal

pub returns-clause-stands : goal.returns-clause-stands
returns-clause-stands c s block body old new = body-stands s block body old new

pub returns-clause-kept : goal.returns-clause-kept
returns-clause-kept c s file k block body old new = body-written-kept s file k block body old new
