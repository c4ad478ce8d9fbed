use Rattle.std.proofs.Common.{length}
use Rattle.nq_disk.specs.BytesLaws.{torn-same}
use Rattle.nq_disk.proofs.file_disk.FileDiskDisk.write_at.Goals as goal

pub returns-in-Ok-clause-leaves : goal.returns-in-Ok-clause-leaves
returns-in-Ok-clause-leaves c = λ image any. (image, tt, torn-same c.args.place (length c.args.bytes.now) image)

pub returns-in-Err-clause-leaves : goal.returns-in-Err-clause-leaves
returns-in-Err-clause-leaves c = λ image any. (image, tt, torn-same c.args.place (length c.args.bytes.now) image)
