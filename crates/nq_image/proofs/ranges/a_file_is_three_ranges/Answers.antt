use Rattle.nq_image.proofs.Overwriting.{file-written, row-cleared}
use Rattle.nq_image.proofs.ranges.a_file_is_three_ranges.Goals as goal

pub returns-clause-written : goal.returns-clause-written
returns-clause-written c bytes s file stands can whole = file-written bytes s stands file can whole

pub returns-clause-cleared : goal.returns-clause-cleared
returns-clause-cleared c bytes s slot stands = row-cleared bytes s stands slot
