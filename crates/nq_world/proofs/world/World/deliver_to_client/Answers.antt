use Rattle.std.proofs.Common.{◌≡◌, Some, refl, subst, arith}
use Rattle.std.specs.Prelude.{slice_get}
use Rattle.nq_base.specs.declared.Event.{Event}
use Rattle.nq_base.specs.declared.Party.{Party}
use Rattle.nq_link.specs.Packets.{Datagram}
use Rattle.nq_world.proofs.Taken.{hear-takes, world}
use Rattle.nq_world.specs.Playing.{TakesIn, WorldOver}
use Rattle.nq_world.proofs.world.World.deliver_to_client.Goals as goal

pub returns-clause-takes : goal.returns-clause-takes
returns-clause-takes g c =
    let i = c.self.inside in
    let content = g.K.Keeper.content in
    let d : Datagram = record { sender = c.args.sender; to = Party.Client c.args.host; bytes = c.args.datagram.now } in
    subst (λ (v : WorldOver g.row.K.Denot). slice_get v.datagrams c.args.number ≡ Some d → TakesIn content (Event.Deliver c.args.number)
    c.finish.result v (world i.server c.hear-made.new.clients.items c.finish.new.packets c.hear-made.new.log i.skew c.finish.new.events i.term))
    c.self.view_is
    (λ is. hear-takes content c.args.number c.args.host d c.hear-made.result c.finish.result i.server i.clients.items c.hear-made.new.clients.items
    i.packets c.outbox.new.packets c.finish.new.packets i.journal c.hear-made.new.log i.skew c.hear-made.new.out.datagrams i.events
    c.finish.new.events i.term is refl (λ k. omega (arith, c.type_inv.datagram k))
    (record { acts = c.hear-made.ensures.acts; has_room = c.in-Ok.ensures.room; same = c.in-Ok.ensures.datagrams; ends = c.finish.ensures.ends }))
    c.requires.is
