use Rattle.nq_image.proofs.Emptying.{nothing-opens}
use Rattle.nq_image.proofs.writing.nothing_is_kept_in_zeros.Goals as goal

pub returns : goal.returns
returns c rest = nothing-opens rest
