use Rattle.std.proofs.Common.{◌≡◌, ◌≤◌, ◌++◌, take, drop, length, vec_capacity}
use Rattle.nq_model.specs.protocol.Ask.{marked}
use Rattle.nq_lease.proofs.changes.mark.Given as goal

abbrev pub invariant-loop-place : goal.invariant-loop-place
invariant-loop-place l = record {
  items : l.rows.items ≡ marked l.file l.host l.access (take l.place l.fn.rows.items) ++ drop l.place l.fn.rows.items;
  long : length l.rows.items ≡ length l.fn.rows.items;
  capacity : vec_capacity l.fn.rows ≤ vec_capacity l.rows;
}
