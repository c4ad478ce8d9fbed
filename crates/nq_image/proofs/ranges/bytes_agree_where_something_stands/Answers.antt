use Rattle.nq_image.proofs.Overwriting.{bytes-agree}
use Rattle.nq_image.proofs.ranges.bytes_agree_where_something_stands.Goals as goal

pub returns : goal.returns
returns c s old new stands = bytes-agree old s stands new
