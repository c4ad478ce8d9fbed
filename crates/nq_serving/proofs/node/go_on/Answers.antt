use Rattle.std.proofs.Common.{refl, subst, Ok, Err}
use Rattle.nq_link.specs.Links.{link_told}
use Rattle.nq_serving.specs.ServerTurn.{SendsOut}
use Rattle.nq_serving.proofs.node.go_on.Goals as goal

pub returns-in-Ok-clause-goes : goal.returns-in-Ok-clause-goes
returns-in-Ok-clause-goes g c =
    let link_of = link_told g.L.Link.sent g.L.Link.waiting g.L.Link.faults g.L.Link.receives in
    record {
      rest = (
        Ok c.in-Ok.came,
        link_of c.take_from-received.new.link,
        c.in-Ok.ensures.receives.receives,
        subst (λ moved. SendsOut c.take_from-received.new.node.out.datagrams moved c.send_out.result
            (link_of c.take_from-received.new.link)
            (link_of c.send_out.new.link))
            c.either.ensures c.send_out.ensures,
      );
      left = c.in-Ok.ensures.receives.left;
    }

pub returns-in-Err-clause-goes : goal.returns-in-Err-clause-goes
returns-in-Err-clause-goes g c =
    let link_of = link_told g.L.Link.sent g.L.Link.waiting g.L.Link.faults g.L.Link.receives in
    record {
      rest = (
        Err c.in-Err.why,
        link_of c.take_from-received.new.link,
        c.in-Err.ensures.receives.receives,
        (refl, refl),
      );
      left = c.in-Err.ensures.receives.left;
    }
