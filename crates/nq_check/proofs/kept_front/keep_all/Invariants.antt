use Rattle.nq_check.specs.Fronts.{KeepsBelow}
use Rattle.nq_check.specs.Links.{IsLinked}
use Rattle.nq_rules.specs.declared.keys.KeyKind.TheVariants.{Delays}
use Rattle.nq_check.specs.declared.rules.Rule.TheVariants.{Synchronized}
use Rattle.nq_check.proofs.kept_front.keep_all.Given as goal

abbrev pub invariant-loop-place : goal.invariant-loop-place
invariant-loop-place l = KeepsBelow Synchronized l.whole l.place × IsLinked Delays l.whole l.place l.trail.delays.heads.entries l.trail.delays.earlier.items
