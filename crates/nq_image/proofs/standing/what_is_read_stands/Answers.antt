use Rattle.nq_image.proofs.Finding.{read-stands}
use Rattle.nq_image.proofs.standing.what_is_read_stands.Goals as goal

pub returns : goal.returns
returns c bytes found = read-stands bytes found
