use Rattle.std.proofs.Common.{◌≡◌, ℕ, List, Option, Some, None, Result, Ok, Err, ◌∙◌}
use Rattle.nq_disk.specs.BytesLaws.{torn-written}
use Rattle.nq_disk.specs.Bytes.{written}
use Rattle.nq_disk.specs.Calling.{Writes, told_after}
use Rattle.nq_disk.specs.declared.disk.DiskFault.{DiskFault}
use Rattle.nq_disk.proofs.redo.steps.write_synced.Goals as goal

writes-then : (result : Result Unit DiskFault) (place : ℕ) (bytes : List ℕ) (told tells : Option (List ℕ)) → tells ≡ told_after place bytes told
    → Writes result place bytes told tells
writes-then (Ok done) place bytes told tells is = is
writes-then (Err fault) place bytes None tells is = is
writes-then (Err fault) place bytes (Some disk) tells is = (written place bytes disk, is, torn-written place bytes disk)

pub returns-clause-writes : goal.returns-clause-writes
returns-clause-writes g c =
    writes-then c.sync.result c.args.place c.args.bytes.now (g.D.Disk.told c.args.disk.now) (g.D.Disk.told c.sync.new.self) (c.sync.ensures.same
    ∙ c.in_ok-write_at.ensures.writes)
