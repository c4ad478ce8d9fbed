use Rattle.std.proofs.Common.{ap, length, subst, sym}
use Rattle.nq_base.specs.declared.Event.{Event}
use Rattle.nq_staged.proofs.Agreeing.{other-tested}
use Rattle.nq_staged.proofs.Reaching.{reached-over}
use Rattle.nq_staged.specs.Worlds.{IsTested, tested_outside}
use Rattle.nq_stage.specs.declared.run.event.StagedEvent.{StagedEvent}
use Rattle.nq_stage.specs.Outer.{Outside}
use Rattle.nq_stage.specs.Outside.{outside_run}
use Rattle.nq_staged.proofs.commit.world.StagedWorld.test_plain.Goals as goal

pub returns-in-ServerTick-clause-tests : goal.returns-in-ServerTick-clause-tests
returns-in-ServerTick-clause-tests g c = λ head events told ready r.
    subst (λ e. IsTested c.test_tick.result (tested_outside head (outside_run head events) (StagedEvent.Plain e))) (sym c.in-ServerTick.is)
    (subst (λ o. IsTested c.test_tick.result (tested_outside head o (StagedEvent.Plain Event.ServerTick)))
    (sym (reached-over head events c.args.self.now told ready r)) (c.test_tick.ensures.tests head events told r))

pub returns-in_default-clause-tests : goal.returns-in_default-clause-tests
returns-in_default-clause-tests g c = λ head events told ready r.
    other-tested head (outside_run head events) c.args.event.now (length c.args.self.now.around.sent) c.test_room.result c.in_default.not-Deliver
    c.in_default.not-ServerTick
    (ap (λ (o : Outside). length o.sent) (reached-over head events c.args.self.now told ready r)) c.test_room.ensures.tests
