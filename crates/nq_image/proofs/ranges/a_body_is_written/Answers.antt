use Rattle.nq_image.proofs.Overwriting.{body-written}
use Rattle.nq_image.proofs.ranges.a_body_is_written.Goals as goal

pub returns : goal.returns
returns c bytes s block part stands apart long begins = body-written bytes s stands block part long begins apart
