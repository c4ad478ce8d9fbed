use Rattle.std.proofs.Common.{◌<◌, ◌∷◌, [], length, map, Ok, Err, subst, arith}
use Rattle.std.specs.Prelude.{IfSome}
use Rattle.nq_loop.proofs.Posts.{all-sent, sent-more, stops-at}
use Rattle.nq_loop.specs.Sending.{SendsAll, told_of}
use Rattle.nq_link.proofs.Letters.{there}
use Rattle.nq_loop.proofs.sending.send_from.Goals as goal

pub loop-number-preserved : goal.loop-number-preserved
loop-number-preserved g c =
    let told = told_of g.L.Link.sent g.L.Link.waiting g.L.Link.faults g.L.Link.receives in
    let ds = c.args.packets.now.datagrams in
    let number = c.loop-number.number in
    let below : number < length ds = omega (arith, c.loop-number-test.true, c.len-number-end.ensures) in
    let t = there ds number below in
    let sends = subst (λ o. IfSome o (λ d. SendsAll (Ok tt) (d ∷ []) (map told c.loop-number.links) (map told c.send_number.new.links))) t.is
    c.in-Ok.ensures in
    sent-more ds c.args.first number t.element (map told c.args.links.now) (map told c.loop-number.links) (map told c.send_number.new.links)
    c.loop-number.auto.number t.is c.loop-number.invariant sends

pub returns-in-Err : goal.returns-in-Err
returns-in-Err g c =
    let told = told_of g.L.Link.sent g.L.Link.waiting g.L.Link.faults g.L.Link.receives in
    let ds = c.args.packets.now.datagrams in
    let number = c.loop-number.number in
    let below : number < length ds = omega (arith, c.loop-number-test.true, c.len-number-end.ensures) in
    let t = there ds number below in
    let stops = subst (λ o. IfSome o (λ d. SendsAll (Err c.in-Err.why) (d ∷ []) (map told c.loop-number.links) (map told c.send_number.new.links)))
    t.is c.in-Err.ensures in
    stops-at c.in-Err.why ds c.args.first number t.element (map told c.args.links.now) (map told c.loop-number.links)
    (map told c.send_number.new.links) c.loop-number.auto.number t.is c.loop-number.invariant stops

pub returns : goal.returns
returns g c =
    let told = told_of g.L.Link.sent g.L.Link.waiting g.L.Link.faults g.L.Link.receives in
    all-sent c.args.packets.now.datagrams c.args.first c.loop-number.number (map told c.args.links.now) (map told c.loop-number.links)
    (omega (arith, c.loop-number-test.false, c.len-number-end.ensures)) c.loop-number.invariant
