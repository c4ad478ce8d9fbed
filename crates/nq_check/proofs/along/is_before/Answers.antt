use Rattle.nq_rules.specs.Sought.{passes}
use Rattle.nq_check.proofs.Standing.{between_is}
use Rattle.nq_check.proofs.along.is_before.Goals as goal

pub returns : goal.returns
returns c =
    between_is (passes c.args.sought) c.args.whole.now c.args.place c.is_between.result c.requires.within c.is_between.ensures.yes
    c.is_between.ensures.no
