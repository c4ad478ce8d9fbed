use Rattle.std.proofs.Common.{map, take, refl, subst}
use Rattle.std.specs.Prelude.{Some, None}
use Rattle.nq_loop.proofs.Hearing.{none-came, none-heard, one-came, relinked}
use Rattle.nq_loop.specs.Holding.{loop_of}
use Rattle.nq_loop.specs.Looping.{HearsAt, MissesAt}
use Rattle.nq_loop.specs.Sending.{told_of}
use Rattle.nq_link.specs.Links.{Letter}
use Rattle.nq_loop.proofs.receiving.receive.Goals as goal

pub returns-in-Nothing : goal.returns-in-Nothing
returns-in-Nothing g c =
    let told = told_of g.L.Link.sent g.L.Link.waiting g.L.Link.faults g.L.Link.receives in
    let links = map told c.bring.new.links in
    record {
      loops = λ head hosts here.
          none-came head c.args.party (loop_of g.K.Keeper.content g.L.Link.sent g.L.Link.waiting g.L.Link.faults g.L.Link.receives c.args.looping.now.world
          c.args.looping.now.state c.args.looping.now.ran c.args.links.now) links here
          (subst (λ p. HearsAt p None (map told c.args.links.now) links) c.place_of-place.ensures c.in-Nothing.ensures);
      keeps = record { faults = refl; clients_are = refl; hosts_are = refl };
      follows = g.met.K.Keeper.follows_itself c.args.looping.now.world.server.keeper;
    }

pub returns-in-Failed : goal.returns-in-Failed
returns-in-Failed g c =
    let told = told_of g.L.Link.sent g.L.Link.waiting g.L.Link.faults g.L.Link.receives in
    let links = map told c.bring.new.links in
    record {
      loops = λ head hosts here.
          none-heard head c.args.party (loop_of g.K.Keeper.content g.L.Link.sent g.L.Link.waiting g.L.Link.faults g.L.Link.receives c.args.looping.now.world
          c.args.looping.now.state c.args.looping.now.ran c.args.links.now) links here
          (subst (λ p. MissesAt p (map told c.args.links.now) links) c.place_of-place.ensures c.in-Failed.ensures);
      keeps = record { faults = refl; clients_are = refl; hosts_are = refl };
      follows = g.met.K.Keeper.follows_itself c.args.looping.now.world.server.keeper;
    }

pub returns-in-Datagram : goal.returns-in-Datagram
returns-in-Datagram g c =
    let told = told_of g.L.Link.sent g.L.Link.waiting g.L.Link.faults g.L.Link.receives in
    let links = map told c.bring.new.links in
    let letter : Letter = (c.in-Datagram.sender, take c.in-Datagram.length c.bring.new.buffer) in
    record {
      loops = λ head hosts here.
          let old = loop_of g.K.Keeper.content g.L.Link.sent g.L.Link.waiting g.L.Link.faults g.L.Link.receives c.args.looping.now.world
          c.args.looping.now.state
          c.args.looping.now.ran c.args.links.now in
          let new = loop_of g.K.Keeper.content g.L.Link.sent g.L.Link.waiting g.L.Link.faults g.L.Link.receives c.take_in.new.looping.world
          c.take_in.new.looping.state c.take_in.new.looping.ran c.take_in.new.links in
          one-came head c.args.party letter c.take_in.result old new links
          (subst (λ p. HearsAt p (Some letter) (map told c.args.links.now) links) c.place_of-place.ensures c.in-Datagram.ensures.1)
          (c.take_in.ensures.takes head hosts (relinked head old links here));
      keeps = c.take_in.ensures.keeps;
      follows = c.take_in.ensures.follows;
    }
