use Rattle.std.proofs.Common.{◌≡◌, ℕ, List, Some, drop}
use Rattle.nq_image.specs.Standing.{Standing}
use Rattle.nq_disk.specs.Saying.{Each}
use Rattle.nq_store.specs.Changing.{zeroed}
use Rattle.nq_store.specs.Storing.{IsReady, StandsStill}
use Rattle.nq_store.proofs.writing.write_zeros.Given as goal

abbrev pub invariant-loop-block : goal.invariant-loop-block
invariant-loop-block g l = record {
  follows : g.D.Disk.follows l.fn.disk l.disk;
  faults : g.D.Disk.faults l.disk ≡ g.D.Disk.faults l.fn.disk;
  told : (old : List ℕ) → g.D.Disk.told l.fn.disk ≡ Some old → (now : List ℕ) × (g.D.Disk.told l.disk ≡ Some now)
      × (zeroed (drop l.block-index l.blocks) now ≡ zeroed l.fn.blocks old);
  still : (old : List ℕ) → g.D.Disk.told l.fn.disk ≡ Some old → (s : Standing) → IsReady s l.fn.blocks (g.D.Disk.may_leave l.fn.disk) old
      → Each (g.D.Disk.leaves l.fn.disk l.disk) (StandsStill s old);
}
