use Rattle.std.proofs.Common.{◌≡◌, ◌*◌, ◌++◌, ℕ, List, Some, drop}
use Rattle.nq_image.specs.Writing.{zeros_of}
use Rattle.nq_plan.proofs.format.empty.write_zeros.Given as goal

abbrev pub invariant-loop-chunk : goal.invariant-loop-chunk
invariant-loop-chunk g l = record {
  follows : g.D.Disk.follows l.fn.disk l.disk;
  faults : g.D.Disk.faults l.disk ≡ g.D.Disk.faults l.fn.disk;
  told : (old : List ℕ) → g.D.Disk.told l.fn.disk ≡ Some old → g.D.Disk.told l.disk ≡ Some (zeros_of (4096 * l.chunk) ++ drop (4096 * l.chunk) old);
}
