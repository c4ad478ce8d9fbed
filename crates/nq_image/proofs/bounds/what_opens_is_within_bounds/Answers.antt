use Rattle.nq_image.proofs.Within.{opened-within}
use Rattle.nq_image.proofs.bounds.what_opens_is_within_bounds.Goals as goal

pub returns : goal.returns
returns c bytes kept = opened-within bytes kept
