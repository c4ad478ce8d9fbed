use Rattle.std.proofs.Common.{◌≡◌, reverse, take}
use Rattle.nq_model.specs.laws.JournalTest.{exists}
use Rattle.nq_model.specs.laws.ReportedTest.{is_unnamed}
use Rattle.nq_rules.proofs.named.has_unnamed.Given as goal

abbrev pub invariant-loop-entry : goal.invariant-loop-entry
invariant-loop-entry l = l.found ≡ exists (is_unnamed (reverse l.whole) (reverse l.before) l.by l.call l.span) (reverse (take l.entry-index l.before))
