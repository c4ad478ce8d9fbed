use Rattle.std.proofs.Common.{reverse, take}
use Rattle.nq_check.specs.Fronts.{KeepsBelow}
use Rattle.nq_rules.specs.InOrder.{AreLines}
use Rattle.nq_check.specs.declared.rules.Rule.TheVariants.{Ordered}
use Rattle.nq_check.proofs.ordering.ordered_front.Given as goal

abbrev pub invariant-loop-place : goal.invariant-loop-place
invariant-loop-place l = AreLines (reverse l.whole) (reverse (take l.place l.whole)) l.lines.entries × KeepsBelow Ordered l.whole l.place
