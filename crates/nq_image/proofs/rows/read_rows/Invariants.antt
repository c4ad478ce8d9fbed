use Rattle.std.proofs.Common.{◌≡◌, ◌≤◌, ◌+◌, ◌*◌, ◌-◌, ◌++◌, [], length, sum_by, All}
use Rattle.nq_image.specs.Check.{tested}
use Rattle.nq_image.specs.Rows.{blocks_of, rows_checks, slots_of}
use Rattle.nq_image.proofs.rows.read_rows.Given as goal

abbrev pub invariant-loop : goal.invariant-loop
invariant-loop l = record {
  size : length l.rest ≡ 96 * (l.fn.count - l.counter);
  at : l.at ≡ l.fn.place + 96 * l.counter;
  few : sum_by blocks_of l.slots.items ≤ 16384;
  all : length l.slots.items ≡ l.counter;
  short : All (λ slot. blocks_of slot ≤ 1024) l.slots.items;
  same : tested (rows_checks l.fn.version (l.fn.count - l.counter) l.at l.slots.items l.rest) (l.slots.items ++ slots_of (l.fn.count - l.counter)
      l.rest) ≡ tested (rows_checks l.fn.version l.fn.count l.fn.place [] l.fn.rows) (slots_of l.fn.count l.fn.rows);
}
