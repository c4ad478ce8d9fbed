use Rattle.std.proofs.Common.{subst, sym}
use Rattle.nq_base.specs.declared.Event.{Event}
use Rattle.nq_names.proofs.Agreeing.{NoDelivery}
use Rattle.nq_names.proofs.Leading.{plain-leads}
use Rattle.nq_names.specs.Playing.{IsLeft, Leads, Reaches, stepped_outside}
use Rattle.nq_name_server.specs.declared.run.event.NameEvent.{NameEvent}
use Rattle.nq_names.proofs.world.NameWorld.play_plain.Goals as goal

pub returns-in-ServerTick-clause-leads : goal.returns-in-ServerTick-clause-leads
returns-in-ServerTick-clause-leads g c = λ head events ready r left.
    subst (λ e. IsLeft (stepped_outside head events (NameEvent.Plain e)) → Leads head events (NameEvent.Plain e) c.tick.result
    (g.K.Keeper.content c.args.self.now.inner.server.keeper) (g.K.Keeper.content c.tick.new.self.inner.server.keeper) (λ es kept. Reaches head es
    c.tick.new.self kept)) (sym c.in-ServerTick.is)
    (λ l. plain-leads head events Event.ServerTick c.tick.result c.args.self.now c.tick.new.self _ _ tt ready r l (c.tick.ensures.ran head)) left

pub returns-in-Call-clause-leads : goal.returns-in-Call-clause-leads
returns-in-Call-clause-leads g c = λ head events ready r left.
    plain-leads head events c.args.event.now c.run.result c.args.self.now c.run.new.self _ _ (subst NoDelivery (sym c.in-Call.is) tt) ready r left
    (c.run.ensures.ran head)

pub returns-in-ClientTick-clause-leads : goal.returns-in-ClientTick-clause-leads
returns-in-ClientTick-clause-leads g c = λ head events ready r left.
    plain-leads head events c.args.event.now c.run-in-ClientTick.result c.args.self.now c.run-in-ClientTick.new.self _ _
    (subst NoDelivery (sym c.in-ClientTick.is) tt) ready r left (c.run-in-ClientTick.ensures.ran head)

pub returns-in-Restart-clause-leads : goal.returns-in-Restart-clause-leads
returns-in-Restart-clause-leads g c = λ head events ready r left.
    plain-leads head events c.args.event.now c.run-in-Restart.result c.args.self.now c.run-in-Restart.new.self _ _
    (subst NoDelivery (sym c.in-Restart.is) tt) ready r left (c.run-in-Restart.ensures.ran head)

pub returns-in-Crash-clause-leads : goal.returns-in-Crash-clause-leads
returns-in-Crash-clause-leads g c = λ head events ready r left.
    subst (λ e. IsLeft (stepped_outside head events (NameEvent.Plain e)) → Leads head events (NameEvent.Plain e) c.crash.result
    (g.K.Keeper.content c.args.self.now.inner.server.keeper) (g.K.Keeper.content c.crash.new.self.inner.server.keeper) (λ es kept. Reaches head es
    c.crash.new.self kept)) (sym c.in-Crash.is)
    (λ l. plain-leads head events (Event.Crash c.in-Crash.longest) c.crash.result c.args.self.now c.crash.new.self _ _ tt ready r l
    (c.crash.ensures.ran head)) left
