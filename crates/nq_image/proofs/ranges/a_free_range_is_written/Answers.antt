use Rattle.nq_image.proofs.Overwriting.{free-written, record-written}
use Rattle.nq_image.proofs.ranges.a_free_range_is_written.Goals as goal

pub returns-clause-of_record : goal.returns-clause-of_record
returns-clause-of_record c bytes s place part stands = record-written bytes s stands place part

pub returns-clause-of_block : goal.returns-clause-of_block
returns-clause-of_block c bytes s block part stands free long begins = free-written bytes s stands block part long begins free
