use Rattle.std.proofs.Common.{◌≡◌, Some, refl, subst, arith}
use Rattle.std.specs.Prelude.{slice_get}
use Rattle.nq_base.specs.declared.Event.{Event}
use Rattle.nq_base.specs.declared.Party.{Party}
use Rattle.nq_link.specs.Packets.{Datagram}
use Rattle.nq_world.proofs.Taken.{receive-takes, world}
use Rattle.nq_world.specs.Moving.{Ends}
use Rattle.nq_world.specs.Playing.{TakesIn, WorldOver}
use Rattle.nq_world.proofs.world.World.deliver_to_server.Goals as goal

pub returns-clause-takes : goal.returns-clause-takes
returns-clause-takes g c =
    let i = c.self.inside in
    let content = g.K.Keeper.content in
    let faults = g.K.Keeper.faults in
    let d : Datagram = record { sender = c.args.sender; to = Party.Server; bytes = c.args.datagram.now } in
    let taken = c.receive-taken in
    subst (λ (v : WorldOver g.row.K.Denot). slice_get v.datagrams c.args.number ≡ Some d → TakesIn content (Event.Deliver c.args.number)
    c.finish.result v (world taken.new.self i.clients.items c.finish.new.packets taken.new.log i.skew c.finish.new.events i.term)) c.self.view_is
    (λ is. receive-takes content c.args.number c.sending_host.result d taken.result c.finish.result i.server taken.new.self i.clients.items i.packets
    c.outbox.new.packets c.finish.new.packets i.journal taken.new.log i.skew c.in-Ok.out taken.new.out (faults i.server.keeper)
    (faults taken.new.self.keeper) i.events c.finish.new.events i.term is refl c.sending_host.ensures (λ k. omega (arith, c.type_inv.datagram k))
    c.in-Ok.ensures.empty c.in-Ok.ensures.first taken.ensures.spent.0 taken.ensures.takes
    (record {
      has_room = c.in-Ok.ensures.room;
      same = c.in-Ok.ensures.datagrams;
      ends = subst (λ m. Ends m c.finish.result Party.Server
          taken.new.out.datagrams c.outbox.new.packets c.finish.new.packets i.events c.finish.new.events) c.received.ensures c.finish.ensures.ends;
    }))
    c.requires.is
