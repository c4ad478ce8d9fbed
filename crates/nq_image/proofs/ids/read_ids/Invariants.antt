use Rattle.std.proofs.Common.{◌≡◌, ◌≤◌, ◌+◌, ◌*◌, ◌-◌, ◌++◌, [], length, drop}
use Rattle.nq_image.specs.Check.{tested}
use Rattle.nq_image.specs.Tables.{ids_checks, ids_of}
use Rattle.nq_image.proofs.ids.read_ids.Given as goal

abbrev pub invariant-loop-slot : goal.invariant-loop-slot
invariant-loop-slot l = record {
  size : 4 * (length l.slots - l.slot-index) ≤ length l.rest;
  at : l.at ≡ l.fn.place + 4 * l.slot-index;
  all : length l.ids.items ≡ l.slot-index;
  same : tested (ids_checks l.fn.next l.at l.ids.items (drop l.slot-index l.slots) l.rest) (l.ids.items ++ ids_of (drop l.slot-index l.slots) l.rest)
      ≡ tested (ids_checks l.fn.next l.fn.place [] l.fn.slots l.fn.block) (ids_of l.fn.slots l.fn.block);
}
