use Rattle.std.proofs.Common.{subst}
use Rattle.nq_bend.proofs.Going.{along-with, beside-with}
use Rattle.nq_bend.specs.Course.{IsWith}
use Rattle.nq_bend.proofs.course.Course.enter.Goals as goal

pub returns-clause-beside : goal.returns-clause-beside
returns-clause-beside c = λ head old bends count told spared origin is.
    beside-with head old bends count c.args.event.now c.args.self.now c.add.new.self told spared
    (subst (λ o. IsWith c.args.event.now o c.args.self.now c.add.new.self) origin c.in_ok-add.ensures) is

pub returns-clause-along : goal.returns-clause-along
returns-clause-along c = λ head old bends count was told spared origin here stands is.
    along-with head old bends count was c.args.event.now c.args.self.now c.add.new.self told spared c.if-self.false here stands
    (subst (λ o. IsWith c.args.event.now o c.args.self.now c.add.new.self) origin c.in_ok-add.ensures) is
