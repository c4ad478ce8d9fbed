use Rattle.std.proofs.Common.{◌≡◌, ◌≤◌, ◌+◌, ◌*◌, ℕ, List, Some, drop, length}
use Rattle.std.specs.List.{sum_by}
use Rattle.nq_image.specs.Layout.{block_place}
use Rattle.nq_image.specs.Rows.{blocks_of}
use Rattle.nq_disk.specs.Saying.{Each, Only}
use Rattle.nq_store.specs.Prepared.{SameBelow, tabled}
use Rattle.nq_store.proofs.migrating.write_tables.Given as goal

abbrev pub invariant-loop-slot : goal.invariant-loop-slot
invariant-loop-slot g l = record {
  follows : g.D.Disk.follows l.fn.disk l.disk;
  faults : g.D.Disk.faults l.disk ≡ g.D.Disk.faults l.fn.disk;
  place : l.place ≡ 40960 + 4096 * l.tables + 4096 * l.slot-index;
  left : l.first + sum_by blocks_of (drop l.slot-index l.slots) ≡ sum_by blocks_of l.slots;
  told : (old : List ℕ) → g.D.Disk.told l.fn.disk ≡ Some old → (now : List ℕ) × (g.D.Disk.told l.disk ≡ Some now)
      × (tabled l.place l.first (drop l.slot-index l.slots) now ≡ tabled (block_place l.tables) 0 l.slots old);
  below : (old : List ℕ) → g.D.Disk.told l.fn.disk ≡ Some old → Only old (g.D.Disk.may_leave l.fn.disk) → block_place l.tables ≤ length old
      → Each (g.D.Disk.leaves l.fn.disk l.disk) (SameBelow (block_place l.tables) old);
}
