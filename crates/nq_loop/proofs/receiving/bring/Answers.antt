use Rattle.std.proofs.Common.{get_or}
use Rattle.std.proofs.lemmas.Option.{slice_get-get_or}
use Rattle.nq_loop.proofs.Hearing.{brings}
use Rattle.nq_loop.proofs.receiving.bring.Goals as goal

pub returns : goal.returns
returns g c =
    let links = c.args.links.now in
    let place = c.args.place in
    brings g.L.Link.sent g.L.Link.waiting g.L.Link.faults g.L.Link.receives links place (get_or links place c.index-links-place.result)
    c.receive.new.self c.receive.result c.args.buffer.now c.receive.new.into
    (slice_get-get_or links place c.index-links-place.result c.requires.there) c.requires.buffer c.receive.auto.into c.receive.ensures.comes
    c.receive.ensures.sent c.receive.ensures.receives c.receive.ensures.cause
