use Rattle.nq_image.proofs.Changing.{heads-kept, heads-stand}
use Rattle.nq_image.proofs.changes.heads_are_sixteen_bytes.Goals as goal

pub returns-clause-stands : goal.returns-clause-stands
returns-clause-stands c s heads old new = heads-stand s heads old new

pub returns-clause-kept : goal.returns-clause-kept
returns-clause-kept c s heads old new = heads-kept s heads old new
