use Rattle.std.proofs.Common.{◌≡◌, reverse, drop}
use Rattle.nq_model.specs.laws.ReportedTest.{name_losses}
use Rattle.nq_rules.proofs.named.name_losses.Given as goal

abbrev pub invariant-loop-place : goal.invariant-loop-place
invariant-loop-place l =
    name_losses (reverse l.whole) (reverse l.before) l.by l.call l.spans.items ≡ name_losses (reverse l.whole) (reverse l.before) l.by l.call
    (drop l.place l.spans.items)
