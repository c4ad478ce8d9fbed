use Rattle.nq_image.proofs.Owning.{standing-apart}
use Rattle.nq_image.proofs.standing.what_stands_is_apart.Goals as goal

pub returns : goal.returns
returns c bytes s file = standing-apart bytes s file
