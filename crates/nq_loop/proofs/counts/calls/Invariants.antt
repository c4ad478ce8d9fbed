use Rattle.std.proofs.Common.{◌≡◌, ◌≤◌, take}
use Rattle.std.specs.List.{count_by}
use Rattle.nq_loop.specs.Counts.{is_call}
use Rattle.nq_loop.proofs.counts.calls.Given as goal

abbrev pub invariant-loop-entry : goal.invariant-loop-entry
invariant-loop-entry l = record {
  counted : l.calls ≡ count_by is_call (take l.entry-index l.entries);
  few : l.calls ≤ l.entry-index;
}
