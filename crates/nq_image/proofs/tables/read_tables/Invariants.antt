use Rattle.std.proofs.Common.{◌≡◌, ◌+◌, ◌*◌, ◌++◌, length, drop}
use Rattle.nq_image.specs.Check.{tested}
use Rattle.nq_image.specs.Tables.{tables_blocks, tables_checks, tables_marks}
use Rattle.nq_image.proofs.tables.read_tables.Given as goal

abbrev pub invariant-loop-slot : goal.invariant-loop-slot
invariant-loop-slot l = record {
  at : l.at ≡ l.fn.place + 4096 * l.slot-index;
  marks : length l.marks ≡ 16641;
  same : tested (tables_checks l.fn.tables l.at (drop l.slot-index l.slots) l.marks l.fn.bytes) (l.given.items ++ tables_blocks l.at
      (drop l.slot-index l.slots) l.fn.bytes) ≡ tested (tables_checks l.fn.tables l.fn.place l.fn.slots l.fn.marks l.fn.bytes)
      (tables_blocks l.fn.place l.fn.slots l.fn.bytes);
  behind : tables_marks l.at (drop l.slot-index l.slots) l.marks l.fn.bytes ≡ tables_marks l.fn.place l.fn.slots l.fn.marks l.fn.bytes;
}
