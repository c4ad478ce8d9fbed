use Rattle.std.proofs.Common.{◌≡◌, [], IfOk, subst}
use Rattle.nq_link.specs.Links.{link_told}
use Rattle.nq_hosts.proofs.UserRuns.{begun, not_begun}
use Rattle.nq_hosts.proofs.user.running.begin.Goals as goal

pub returns-in-Ok-send_out : goal.returns-in-Ok-send_out
returns-in-Ok-send_out g c =
    let link_of = link_told g.L.Link.sent g.L.Link.waiting g.L.Link.faults g.L.Link.receives in
    let made = subst (λ r. IfOk r (λ o. (o.first ≡ 0) × (o.datagrams ≡ []))) c.unwrap-out.ensures c.new.ensures.empty in (
      c.in-Ok.ensures.client,
      c.in-Ok.ensures.taken,
      begun c.args.who c.args.now c.start.new.out.datagrams c.unwrap-out.result.datagrams (link_of c.args.link.now) (link_of c.send_out.new.link) made.1
          c.in-Ok.ensures.sent c.in-Ok-send_out.ensures,
    )

pub returns : goal.returns
returns g c =
    let link_of = link_told g.L.Link.sent g.L.Link.waiting g.L.Link.faults g.L.Link.receives in
    let made = subst (λ r. IfOk r (λ o. (o.first ≡ 0) × (o.datagrams ≡ []))) c.unwrap-out.ensures c.new.ensures.empty in
    not_begun c.args.who c.args.now c.in-Err-send_out.why c.start.new.out.datagrams c.unwrap-out.result.datagrams (link_of c.args.link.now)
    (link_of c.send_out.new.link) made.1 c.in-Ok.ensures.sent c.in-Err-send_out.ensures
