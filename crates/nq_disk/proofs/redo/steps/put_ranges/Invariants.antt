use Rattle.std.proofs.Common.{◌≡◌, ◌-◌, ℕ, List, Some}
use Rattle.nq_disk.specs.Ranges.{Range, Among, Settling, applied}
use Rattle.nq_disk.specs.Record.{ranges_in}
use Rattle.nq_disk.specs.Saying.{Each, Only}
use Rattle.nq_disk.proofs.redo.steps.put_ranges.Given as goal

abbrev pub invariant-loop-turn : goal.invariant-loop-turn
invariant-loop-turn g l = record {
  follows : g.D.Disk.follows l.fn.disk l.disk;
  faults : g.D.Disk.faults l.disk ≡ g.D.Disk.faults l.fn.disk;
  leaves : (old : List ℕ) → g.D.Disk.told l.fn.disk ≡ Some old → Only old (g.D.Disk.may_leave l.fn.disk) → Each (g.D.Disk.leaves l.fn.disk l.disk)
      (Settling (ranges_in l.count l.bytes) old);
  told : (old : List ℕ) → g.D.Disk.told l.fn.disk ≡ Some old → (now : List ℕ) × (g.D.Disk.told l.disk ≡ Some now)
      × (applied (ranges_in (l.count - l._turn) l.rest) now ≡ applied (ranges_in l.count l.bytes) old);
  among : (range : Range) → Among (ranges_in (l.count - l._turn) l.rest) range → Among (ranges_in l.count l.bytes) range;
}
