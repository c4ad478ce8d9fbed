use Rattle.nq_check.specs.declared.rules.Rule.TheVariants.{Accounted}
use Rattle.nq_check.proofs.MovesOn.{none_below}
use Rattle.nq_check.proofs.apart.front_sorted.Goals as goal

pub returns-then-not-are_apart : goal.returns-then-not-are_apart
returns-then-not-are_apart c = none_below Accounted c.args.whole.now
