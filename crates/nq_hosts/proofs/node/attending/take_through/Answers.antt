use Rattle.std.proofs.Common.{take}
use Rattle.nq_hosts.specs.ClientTurn.{Moment}
use Rattle.nq_link.specs.Links.{LinkTold, link_told, most_bytes}
use Rattle.nq_hosts.proofs.ClientTurns.{one_came}
use Rattle.nq_link.proofs.Letters.{heard}
use Rattle.nq_hosts.proofs.node.attending.take_through.Goals as goal

pub returns-in-Datagram : goal.returns-in-Datagram
returns-in-Datagram g c =
    let link_of = link_told g.L.Link.sent g.L.Link.waiting g.L.Link.faults g.L.Link.receives in
    let link : LinkTold = link_of c.args.link.now in
    let link' : LinkTold = link_of c.receive.new.self in
    let at : Moment = record { client = c.args.client.now; out = c.args.out.now; log = c.args.log.now; next = c.args.next.now } in
    let after : Moment = record { client = c.take_in.new.client; out = c.take_in.new.out; log = c.take_in.new.log; next = c.take_in.new.next } in
    one_came c.take_in.result (c.in-Datagram.sender, take c.in-Datagram.length c.receive.new.into) link link' at after
    (heard most_bytes c.in-Datagram.length c.in-Datagram.sender (g.L.Link.waiting c.args.link.now) (g.L.Link.waiting c.receive.new.self)
    c.args.buffer.now c.receive.new.into c.requires c.in-Datagram.ensures.comes)
    c.receive.ensures.sent c.receive.ensures.receives c.in-Datagram.ensures.cause c.take_in.ensures
