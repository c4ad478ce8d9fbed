use Rattle.std.proofs.Common.{refl}
use Rattle.std.specs.Prelude.{reverse}
use Rattle.nq_loop.proofs.Hearing.{drops-it, takes-packet, wants-memory}
use Rattle.nq_loop.specs.Holding.{loop_of}
use Rattle.nq_loop.proofs.receiving.take_in.Goals as goal

pub returns-in-Ok-Some : goal.returns-in-Ok-Some
returns-in-Ok-Some g c = record {
  takes = λ head hosts here.
      takes-packet head (record { sender = c.args.letter.now.sender; to = c.args.letter.now.to; bytes = c.args.letter.now.bytes.now })
      c.in-Ok-Some.number c.packets.result.now.datagrams c.give.result
      (loop_of g.K.Keeper.content g.L.Link.sent g.L.Link.waiting g.L.Link.faults g.L.Link.receives c.args.looping.now.world c.args.looping.now.state
      c.args.looping.now.ran
      c.args.links.now)
      (loop_of g.K.Keeper.content g.L.Link.sent g.L.Link.waiting g.L.Link.faults g.L.Link.receives c.give.new.looping.world c.give.new.looping.state
      c.give.new.looping.ran
      c.give.new.links)
      here c.packets.ensures ((rw c.in-Ok-Some.field-0-is at c.in-Ok-Some.ensures) (reverse c.args.looping.now.ran) here.marks) (c.give.ensures.gives
      head hosts here);
  keeps = c.give.ensures.keeps;
  follows = c.give.ensures.follows;
}

pub returns-in-Ok-None : goal.returns-in-Ok-None
returns-in-Ok-None g c = record {
  takes = λ head hosts here.
      drops-it head (record { sender = c.args.letter.now.sender; to = c.args.letter.now.to; bytes = c.args.letter.now.bytes.now })
      c.packets.result.now.datagrams (loop_of g.K.Keeper.content g.L.Link.sent g.L.Link.waiting g.L.Link.faults g.L.Link.receives c.args.looping.now.world
      c.args.looping.now.state c.args.looping.now.ran c.args.links.now)
      here c.packets.ensures ((rw c.in-Ok-None.field-0-is at c.in-Ok-None.ensures) (reverse c.args.looping.now.ran) here.marks);
  keeps = record { faults = refl; clients_are = refl; hosts_are = refl };
  follows = g.met.K.Keeper.follows_itself c.args.looping.now.world.server.keeper;
}

pub returns-in-Err : goal.returns-in-Err
returns-in-Err g c = record {
  takes = λ head hosts here. wants-memory head _ _ here;
  keeps = record { faults = refl; clients_are = refl; hosts_are = refl };
  follows = g.met.K.Keeper.follows_itself c.args.looping.now.world.server.keeper;
}
