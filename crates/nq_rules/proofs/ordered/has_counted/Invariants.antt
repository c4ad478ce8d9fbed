use Rattle.std.proofs.Common.{◌≡◌, reverse, take}
use Rattle.nq_model.specs.laws.JournalTest.{exists}
use Rattle.nq_model.specs.laws.LegalTest.{is_counted_by}
use Rattle.nq_rules.proofs.ordered.has_counted.Given as goal

abbrev pub invariant-loop-entry : goal.invariant-loop-entry
invariant-loop-entry l = l.found ≡ exists (is_counted_by (reverse l.whole) l.by l.n) (reverse (take l.entry-index l.before))
