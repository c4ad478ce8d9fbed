use Rattle.std.proofs.Common.{◌≡◌, drop}
use Rattle.nq_model.specs.laws.JournalTest.{exists}
use Rattle.nq_model.specs.laws.ReportedTest.{is_name_of}
use Rattle.nq_rules.proofs.named.are_names_of.Given as goal

abbrev pub invariant-loop-place : goal.invariant-loop-place
invariant-loop-place l = exists (is_name_of l.loss) l.spans.items ≡ exists (is_name_of l.loss) (drop l.place l.spans.items)
