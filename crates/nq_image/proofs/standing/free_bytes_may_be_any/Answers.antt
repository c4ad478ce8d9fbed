use Rattle.nq_image.proofs.Agreeing.{agree-kept, agree-stands}
use Rattle.nq_image.proofs.standing.free_bytes_may_be_any.Goals as goal

pub returns-clause-stands : goal.returns-clause-stands
returns-clause-stands c s old new = agree-stands s old new

pub returns-clause-kept : goal.returns-clause-kept
returns-clause-kept c s old new agree = agree-kept s old new agree.blocks
