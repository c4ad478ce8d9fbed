use Rattle.std.proofs.Common.{◌≡◌, reverse, take}
use Rattle.nq_model.specs.laws.JournalTest.{exists}
use Rattle.nq_model.specs.laws.ReportedTest.{names}
use Rattle.nq_rules.proofs.named.is_named.Given as goal

abbrev pub invariant-loop-entry : goal.invariant-loop-entry
invariant-loop-entry l = l.found ≡ exists (names (reverse l.whole) l.by l.loss) (reverse (take l.entry-index l.entries))
