use Rattle.std.proofs.Common.{◌≡◌, reverse, take}
use Rattle.nq_model.specs.laws.JournalTest.{exists}
use Rattle.nq_model.specs.laws.OrderedTest.{is_numbered}
use Rattle.nq_rules.proofs.ordered.has_numbered.Given as goal

abbrev pub invariant-loop-entry : goal.invariant-loop-entry
invariant-loop-entry l = l.found ≡ exists (is_numbered l.by l.n) (reverse (take l.entry-index l.before))
