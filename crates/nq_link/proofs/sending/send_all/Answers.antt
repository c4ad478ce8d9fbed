use Rattle.std.proofs.Common.{◌≡◌, ◌<◌, ◌∙◌, length, subst, add-one, arith}
use Rattle.std.specs.Option.{IfSome}
use Rattle.nq_io.specs.Faults.{Rose}
use Rattle.nq_link.specs.Link.{with_last}
use Rattle.nq_link.proofs.Letters.{there, sent-more, sent-front}
use Rattle.nq_link.proofs.sending.send_all.Goals as goal

pub returns-in-Failed-clause-sends : goal.returns-in-Failed-clause-sends
returns-in-Failed-clause-sends g c =
    let all = c.args.out.now.datagrams in
    let place = c.loop-place.place in
    let below : place < length all = omega (arith, c.loop-place-test.true, c.len-place-end.ensures) in
    let t = there all place below in
    let before = g.L.Link.sent c.loop-place.link in
    let after = g.L.Link.sent c.send_one.new.link in
    let same : after ≡ before = subst (λ o. IfSome o (λ d. after ≡ before)) t.is c.in-Failed.ensures.sends in (
      sent-front all place t.element (g.L.Link.sent c.args.link.now) before after t.is c.loop-place.invariant.0 same,
      subst (λ n. Rose n (g.L.Link.faults c.send_one.new.link)) c.loop-place.invariant.3 c.in-Failed.ensures.cause,
    )

pub loop-place-preserved : goal.loop-place-preserved
loop-place-preserved g c =
    let all = c.args.out.now.datagrams in
    let place = c.loop-place.place in
    let below : place < length all = omega (arith, c.loop-place-test.true, c.len-place-end.ensures) in
    let t = there all place below in
    let before = g.L.Link.sent c.loop-place.link in
    let after = g.L.Link.sent c.send_one.new.link in
    let more : after ≡ with_last before t.element.0 t.element.1 = subst (λ o. IfSome o (λ d. after ≡ with_last before d.0 d.1)) t.is c.in-All.ensures.sends in
    rw add-one (
      sent-more all place t.element (g.L.Link.sent c.args.link.now) before after t.is c.loop-place.invariant.0 more,
      c.send_one.ensures.waiting ∙ c.loop-place.invariant.1,
      c.send_one.ensures.receives ∙ c.loop-place.invariant.2,
      c.in-All.ensures.cause ∙ c.loop-place.invariant.3,
    )
