use Rattle.std.proofs.Common.{◌≡◌, ◌≤◌, take}
use Rattle.std.specs.List.{count_by}
use Rattle.nq_loop.specs.Counts.{is_answer}
use Rattle.nq_loop.proofs.counts.answers.Given as goal

abbrev pub invariant-loop-entry : goal.invariant-loop-entry
invariant-loop-entry l = record {
  counted : l.answers ≡ count_by is_answer (take l.entry-index l.entries);
  few : l.answers ≤ l.entry-index;
}
