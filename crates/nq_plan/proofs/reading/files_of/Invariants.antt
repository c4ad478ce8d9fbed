use Rattle.std.proofs.Common.{◌≡◌, ◌-◌, ◌++◌, drop, length}
use Rattle.nq_plan.specs.Reading.{rows_of}
use Rattle.nq_plan.proofs.reading.files_of.Given as goal

abbrev pub invariant-loop-slot : goal.invariant-loop-slot
invariant-loop-slot l = record {
  number : l.number ≡ l.slot-index;
  left : length l.left ≡ 256 - l.slot-index;
  size : length l.rows.items ≡ l.slot-index;
  same : l.rows.items ++ rows_of l.number (drop l.slot-index l.slots) l.left l.rest ≡ rows_of 0 l.fn.slots l.fn.ids l.fn.blocks;
}
