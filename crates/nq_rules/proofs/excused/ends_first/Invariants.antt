use Rattle.std.proofs.Common.{◌≡◌, ◌≤◌, length, reverse, take}
use Rattle.nq_model.specs.laws.CutOffTest.{ends_first}
use Rattle.nq_rules.proofs.excused.ends_first.Given as goal

abbrev pub invariant-loop-left : goal.invariant-loop-left
invariant-loop-left l =
    (l.left ≤ length l.before) × (ends_first l.loss l.by l.on (reverse l.before) ≡ ends_first l.loss l.by l.on (reverse (take l.left l.before)))

abbrev pub decreases-loop-left : goal.decreases-loop-left
decreases-loop-left l = l.left
