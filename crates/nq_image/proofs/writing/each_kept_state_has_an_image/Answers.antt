use Rattle.nq_image.proofs.Imaging.{image-opens}
use Rattle.nq_image.proofs.writing.each_kept_state_has_an_image.Goals as goal

pub returns : goal.returns
returns c kept rest within = image-opens kept rest within
