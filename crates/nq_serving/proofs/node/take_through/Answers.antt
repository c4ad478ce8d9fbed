use Rattle.std.proofs.Common.{rules, Ok, Err, false, sym, subst, take}
use Rattle.nq_serving.specs.Leaving.{LeavesReceiving}
use Rattle.nq_link.specs.Links.{LinkTold, link_told, most_bytes}
use Rattle.nq_base.specs.declared.ending.fault.Fault.{Fault}
use Rattle.nq_serving.proofs.Leaves.{came_leaves, still_leaves}
use Rattle.nq_link.proofs.Letters.{heard}
use Rattle.nq_serving.specs.Extending.{extension_told}
use Rattle.nq_serving.proofs.node.take_through.Goals as goal

pub returns-in-Nothing-clause-receives : goal.returns-in-Nothing-clause-receives
returns-in-Nothing-clause-receives g c =
    let link_of = link_told g.L.Link.sent g.L.Link.waiting g.L.Link.faults g.L.Link.receives in
    still_leaves g.K.Keeper.content g.K.Keeper.faults (extension_told g.E.Extension.owns g.E.Extension.replies) g.K.Keeper.follows g.K.Keeper.leaves
    g.met.K.Keeper.follows_on g.met.K.Keeper.parts (Ok false)
    (link_of c.args.link.now) (link_of c.receive.new.self) c.args.node.now (search rules)

pub returns-in-Failed-clause-receives : goal.returns-in-Failed-clause-receives
returns-in-Failed-clause-receives g c =
    let link_of = link_told g.L.Link.sent g.L.Link.waiting g.L.Link.faults g.L.Link.receives in
    still_leaves g.K.Keeper.content g.K.Keeper.faults (extension_told g.E.Extension.owns g.E.Extension.replies) g.K.Keeper.follows g.K.Keeper.leaves
    g.met.K.Keeper.follows_on g.met.K.Keeper.parts
    (Err Fault.Link) (link_of c.args.link.now) (link_of c.receive.new.self) c.args.node.now (search rules)

pub returns-in-Datagram-clause-receives : goal.returns-in-Datagram-clause-receives
returns-in-Datagram-clause-receives g c =
    let link_of = link_told g.L.Link.sent g.L.Link.waiting g.L.Link.faults g.L.Link.receives in
    let link : LinkTold = link_of c.args.link.now in
    let link' : LinkTold = link_of c.receive.new.self in
    subst (λ r. LeavesReceiving g.K.Keeper.content g.K.Keeper.faults (extension_told g.E.Extension.owns g.E.Extension.replies) g.K.Keeper.follows
    g.K.Keeper.leaves r link link' c.args.node.now c.take_in.new.node) (sym c.taken.ensures)
    (came_leaves g.K.Keeper.content g.K.Keeper.faults (extension_told g.E.Extension.owns g.E.Extension.replies) g.K.Keeper.follows g.K.Keeper.leaves
    g.met.K.Keeper.follows_on g.met.K.Keeper.parts
    c.take_in.result (c.in-Datagram.sender, take c.in-Datagram.length c.receive.new.into) link link' c.args.node.now c.take_in.new.node
    (record {
      hears =
          heard most_bytes c.in-Datagram.length c.in-Datagram.sender (g.L.Link.waiting c.args.link.now) (g.L.Link.waiting c.receive.new.self) c.args.buffer.now
          c.receive.new.into c.requires c.in-Datagram.ensures.comes;
      sent = c.receive.ensures.sent;
      receives = c.receive.ensures.receives;
      count = c.in-Datagram.ensures.cause;
      takes = c.take_in.ensures.takes;
    })
    c.take_in.ensures.leaves)
