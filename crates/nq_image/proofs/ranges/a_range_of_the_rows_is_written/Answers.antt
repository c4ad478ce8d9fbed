use Rattle.nq_image.proofs.Overwriting.{rows-written}
use Rattle.nq_image.proofs.ranges.a_range_of_the_rows_is_written.Goals as goal

pub returns : goal.returns
returns c bytes s place part stands = rows-written bytes s stands place part
