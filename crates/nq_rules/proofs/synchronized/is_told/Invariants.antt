use Rattle.std.proofs.Common.{◌≡◌, reverse, take}
use Rattle.nq_model.specs.laws.JournalTest.{exists}
use Rattle.nq_model.specs.laws.SynchronizedTest.{is_named_loss}
use Rattle.nq_rules.proofs.synchronized.is_told.Given as goal

abbrev pub invariant-loop-entry : goal.invariant-loop-entry
invariant-loop-entry l = l.found ≡ exists (is_named_loss (reverse l.whole) (reverse l.answered) l.write) (reverse (take l.entry-index l.whole))
