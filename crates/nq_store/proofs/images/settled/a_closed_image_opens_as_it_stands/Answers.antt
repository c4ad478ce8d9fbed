use Rattle.nq_store.proofs.ImagesOpening.{closed-stands}
use Rattle.nq_store.proofs.images.settled.a_closed_image_opens_as_it_stands.Goals as goal

pub returns : goal.returns
returns c old image s stands closed long is = closed-stands old image s stands closed long is
