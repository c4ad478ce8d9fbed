use Rattle.std.proofs.Common.{subst}
use Rattle.nq_base.specs.declared.Event.{Event}
use Rattle.nq_world.proofs.Taken.{call-takes, world}
use Rattle.nq_world.specs.Playing.{TakesIn, WorldOver}
use Rattle.nq_world.proofs.world.World.call.Goals as goal

pub returns-clause-takes : goal.returns-clause-takes
returns-clause-takes g c =
    let i = c.self.inside in
    let content = g.K.Keeper.content in
    subst (λ (v : WorldOver g.row.K.Denot). TakesIn content (Event.Call c.args.host c.args.op.now) c.finish.result v
    (world i.server c.call-made.new.clients.items c.finish.new.packets c.call-made.new.log i.skew c.finish.new.events i.term)) c.self.view_is
    (call-takes content c.args.host c.args.op.now c.call-made.result c.finish.result i.server i.clients.items c.call-made.new.clients.items i.packets
    c.outbox.new.packets c.finish.new.packets i.journal c.call-made.new.log i.skew c.call-made.new.out.datagrams i.events c.finish.new.events i.term
    (record { acts = c.call-made.ensures.acts; has_room = c.in-Ok.ensures.room; same = c.in-Ok.ensures.datagrams; ends = c.finish.ensures.ends }))
