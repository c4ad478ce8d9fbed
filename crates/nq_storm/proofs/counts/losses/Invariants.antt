use Rattle.std.proofs.Common.{◌≡◌, ◌≤◌, take}
use Rattle.std.specs.List.{count_by}
use Rattle.nq_storm.specs.Counts.{is_loss}
use Rattle.nq_storm.proofs.counts.losses.Given as goal

abbrev pub invariant-loop-entry : goal.invariant-loop-entry
invariant-loop-entry l = record {
  counted : l.lost ≡ count_by is_loss (take l.entry-index l.entries);
  few : l.lost ≤ l.entry-index;
}
