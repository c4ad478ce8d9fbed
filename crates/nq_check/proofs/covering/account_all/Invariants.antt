use Rattle.std.proofs.Common.{reverse, take}
use Rattle.nq_check.specs.Covered.{IsCoveredTo}
use Rattle.nq_check.specs.Fronts.{KeepsBelow}
use Rattle.nq_check.specs.declared.rules.Rule.TheVariants.{Accounted}
use Rattle.nq_model.specs.laws.Journal.{Each}
use Rattle.nq_check.proofs.covering.account_all.Given as goal

abbrev pub invariant-loop-place : goal.invariant-loop-place
invariant-loop-place l =
    Each (IsCoveredTo 18446744073709551615 l.reach) (reverse (take l.place l.whole)) × KeepsBelow Accounted l.whole l.place
