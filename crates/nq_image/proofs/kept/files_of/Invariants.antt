use Rattle.std.proofs.Common.{◌≡◌, ◌≤◌, ◌+◌, ◌-◌, [], length, drop}
use Rattle.std.specs.List.{sum_by}
use Rattle.nq_image.specs.Kept.{files_of}
use Rattle.nq_image.specs.Rows.{blocks_of}
use Rattle.nq_image.proofs.kept.files_of.Given as goal

abbrev pub invariant-loop-slot : goal.invariant-loop-slot
invariant-loop-slot l = record {
  size : length l.rest ≡ length l.slots - l.slot-index;
  start : l.start + sum_by blocks_of (drop l.slot-index l.slots) ≡ sum_by blocks_of l.fn.slots;
  many : length l.files.items ≤ l.slot-index;
  same : files_of l.files.items l.start (drop l.slot-index l.slots) l.rest ≡ files_of [] 0 l.fn.slots l.fn.ids;
}
