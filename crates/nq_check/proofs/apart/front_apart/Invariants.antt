use Rattle.std.proofs.Common.{reverse, take}
use Rattle.nq_check.specs.Apart.{IsRankedBelow}
use Rattle.nq_check.specs.Fronts.{KeepsBelow}
use Rattle.nq_check.specs.declared.rules.Rule.TheVariants.{Accounted}
use Rattle.nq_model.specs.laws.Journal.{Each}
use Rattle.nq_check.proofs.apart.front_apart.Given as goal

abbrev pub invariant-loop-place : goal.invariant-loop-place
invariant-loop-place l =
    Each (IsRankedBelow l.sorted l.marks.entries l.place) (reverse (take l.place l.whole)) × KeepsBelow Accounted l.whole l.place
