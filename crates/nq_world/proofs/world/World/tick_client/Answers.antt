use Rattle.std.proofs.Common.{subst}
use Rattle.nq_base.specs.declared.Event.{Event}
use Rattle.nq_world.proofs.Taken.{tick-takes, world}
use Rattle.nq_world.specs.Playing.{TakesIn, WorldOver}
use Rattle.nq_world.proofs.world.World.tick_client.Goals as goal

pub returns-clause-takes : goal.returns-clause-takes
returns-clause-takes g c =
    let i = c.self.inside in
    let content = g.K.Keeper.content in
    subst (λ (v : WorldOver g.row.K.Denot). TakesIn content (Event.ClientTick c.args.host) c.finish.result v
    (world i.server c.tick-made.new.clients.items c.finish.new.packets c.tick-made.new.log c.tick-made.new.skew c.finish.new.events i.term)) c.self.view_is
    (tick-takes content c.args.host c.tick-made.result c.finish.result i.server i.clients.items c.tick-made.new.clients.items i.packets
    c.outbox.new.packets c.finish.new.packets i.journal c.tick-made.new.log i.skew c.tick-made.new.skew c.tick-made.new.out.datagrams i.events
    c.finish.new.events i.term
    (record { acts = c.tick-made.ensures.acts; has_room = c.in-Ok.ensures.room; same = c.in-Ok.ensures.datagrams; ends = c.finish.ensures.ends })
    c.tick-made.ensures.clocks)
