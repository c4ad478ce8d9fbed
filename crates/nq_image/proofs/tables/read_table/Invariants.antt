use Rattle.std.proofs.Common.{◌≡◌, ◌≤◌, ◌+◌, ◌*◌, ◌-◌, ◌++◌, length}
use Rattle.nq_image.specs.Check.{tested}
use Rattle.nq_image.specs.Tables.{table_checks, table_of, marks_behind}
use Rattle.nq_image.proofs.tables.read_table.Given as goal

abbrev pub invariant-loop : goal.invariant-loop
invariant-loop l = record {
  size : 4 * (l.fn.count - l.counter) ≤ length l.rest;
  at : l.at ≡ l.fn.place + 4 * l.counter;
  marks : length l.marks ≡ 16641;
  same : tested (table_checks (l.fn.count - l.counter) l.fn.tables l.at l.marks l.rest) (l.given.items ++ table_of (l.fn.count - l.counter) l.rest)
      ≡ tested (table_checks l.fn.count l.fn.tables l.fn.place l.fn.marks l.fn.table) (table_of l.fn.count l.fn.table);
  behind : marks_behind (l.fn.count - l.counter) l.marks l.rest ≡ marks_behind l.fn.count l.fn.marks l.fn.table;
}
