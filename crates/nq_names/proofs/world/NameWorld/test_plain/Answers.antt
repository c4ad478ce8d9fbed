use Rattle.std.proofs.Common.{subst, sym}
use Rattle.nq_base.specs.declared.Event.{Event}
use Rattle.nq_names.proofs.Reaching.{reached-over}
use Rattle.nq_names.specs.Playing.{IsTested, tested_outside}
use Rattle.nq_name_server.specs.declared.run.event.NameEvent.{NameEvent}
use Rattle.nq_name_server.specs.Outside.{outside_run}
use Rattle.nq_names.proofs.world.NameWorld.test_plain.Goals as goal

pub returns-in-ServerTick-clause-tests : goal.returns-in-ServerTick-clause-tests
returns-in-ServerTick-clause-tests g c = λ head events told ready r.
    subst (λ e. IsTested c.test_tick.result (tested_outside head (outside_run head events) (NameEvent.Plain e))) (sym c.in-ServerTick.is)
    (subst (λ o. IsTested c.test_tick.result (tested_outside head o (NameEvent.Plain Event.ServerTick)))
    (sym (reached-over head events c.args.self.now told ready r)) (c.test_tick.ensures.tests head events told r))
