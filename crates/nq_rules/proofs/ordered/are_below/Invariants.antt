use Rattle.std.proofs.Common.{◌≡◌, reverse, take}
use Rattle.nq_model.specs.laws.JournalTest.{each}
use Rattle.nq_model.specs.laws.OrderedTest.{is_call_below}
use Rattle.nq_rules.proofs.ordered.are_below.Given as goal

abbrev pub invariant-loop-entry : goal.invariant-loop-entry
invariant-loop-entry l = l.all ≡ each (is_call_below l.by l.n) (reverse (take l.entry-index l.before))
