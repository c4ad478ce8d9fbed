use Rattle.std.proofs.Common.{subst}
use Rattle.nq_disk.specs.Bytes.{AreBytes}
use Rattle.nq_disk.proofs.mem_disk.MemDisk.len.Goals as goal

pub returns-clause-bytes : goal.returns-clause-bytes
returns-clause-bytes c = subst AreBytes c.bytes.ensures c.count_of.ensures.bytes
