use Rattle.std.proofs.Common.{◌≡◌, drop}
use Rattle.nq_model.specs.laws.JournalTest.{exists}
use Rattle.nq_model.specs.laws.ReportedTest.{is_same_span}
use Rattle.nq_rules.proofs.named.comes_again.Given as goal

abbrev pub invariant-loop-place : goal.invariant-loop-place
invariant-loop-place l = exists (is_same_span l.span) (drop l.from l.spans.items) ≡ exists (is_same_span l.span) (drop l.place l.spans.items)
