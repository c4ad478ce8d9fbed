use Rattle.std.proofs.Common.{◌≡◌, ◌≤◌, ◌-◌, true, false, length}
use Rattle.nq_disk.specs.FileDisk.{TookAll}
use Rattle.nq_disk.proofs.file_disk.FileDisk.write_all.Given as goal

abbrev pub invariant-loop-count : goal.invariant-loop-count
invariant-loop-count l = record {
  within : l.count ≤ length l.bytes;
  path : l.self.path ≡ l.fn.self.path;
  faults : l.self.faults ≡ l.fn.self.faults;
  opened : l.self.is_open ≡ true;
  took : TookAll l.place l.count l.fn.self.asked l.self.asked;
  unsynced : l.self.asked.is_synced ≡ false;
}

abbrev pub decreases-loop-count : goal.decreases-loop-count
decreases-loop-count l = length l.bytes - l.count
