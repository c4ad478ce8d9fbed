use Rattle.nq_image.proofs.Changing.{host-kept, host-stands}
use Rattle.nq_image.proofs.changes.a_host_is_its_row.Goals as goal

pub returns-clause-stands : goal.returns-clause-stands
returns-clause-stands c s host row old new = host-stands s host row old new

pub returns-clause-kept : goal.returns-clause-kept
returns-clause-kept c s host row old new = host-kept s host row old new
