use Rattle.std.proofs.Common.{refl, subst, Ok, Err}
use Rattle.nq_hosts.specs.ClientTurn.{SendsOut}
use Rattle.nq_link.specs.Links.{link_told}
use Rattle.nq_hosts.proofs.node.attending.go_on.Goals as goal

pub returns-in-Ok : goal.returns-in-Ok
returns-in-Ok g c =
    let link_of = link_told g.L.Link.sent g.L.Link.waiting g.L.Link.faults g.L.Link.receives in (
      Ok c.in-Ok.came,
      link_of c.take_from.new.link,
      c.in-Ok.ensures,
      subst (λ answer. SendsOut c.take_from.new.out.datagrams answer c.send_out.result
          (link_of c.take_from.new.link)
          (link_of c.send_out.new.link))
          c.first.ensures c.send_out.ensures,
    )

pub returns-in-Err : goal.returns-in-Err
returns-in-Err g c =
    let link_of = link_told g.L.Link.sent g.L.Link.waiting g.L.Link.faults g.L.Link.receives in (
      Err c.in-Err.why,
      link_of c.take_from.new.link,
      c.in-Err.ensures,
      (refl, refl),
    )
