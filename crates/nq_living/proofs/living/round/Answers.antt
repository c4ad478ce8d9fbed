use Rattle.nq_clock.specs.Clocks.{clock_told}
use Rattle.nq_link.specs.Links.{link_told}
use Rattle.nq_living.proofs.Lives.{stirred_by, then, turned_page}
use Rattle.nq_living.specs.Living.{life}
use Rattle.nq_living.proofs.living.round.Goals as goal

pub returns : goal.returns
returns g c =
    let clock_of = clock_told g.C.Clock.floor g.C.Clock.readings g.C.Clock.reads in
    let link_of = link_told g.L.Link.sent g.L.Link.waiting g.L.Link.faults g.L.Link.receives in
    let start = (life c.args.host.now (clock_of c.args.clock.now) (link_of c.args.link.now) c.args.askers.now) in
    let heard = (life c.hear.new.host (clock_of c.hear.new.clock) (link_of c.hear.new.link) c.hear.new.askers) in
    let tended = record heard { askers = c.tend-has_heard.new.self } in
    let called = (life c.call_on-has_called.new.host (clock_of c.call_on-has_called.new.clock) (link_of c.call_on-has_called.new.link) c.call_on-has_called.new.askers) in
    let page = link_of c.turn_page-is_over.new.link in
    then g.A.Askers.gives g.A.Askers.takes g.A.Askers.notes g.A.Askers.pages g.A.Askers.stirs start called (record called { link = page; askers = c.turn_page-is_over.new.askers })
    (then g.A.Askers.gives g.A.Askers.takes g.A.Askers.notes g.A.Askers.pages g.A.Askers.stirs start tended called
    (then g.A.Askers.gives g.A.Askers.takes g.A.Askers.notes g.A.Askers.pages g.A.Askers.stirs start heard tended c.hear.ensures (stirred_by g.A.Askers.gives g.A.Askers.takes g.A.Askers.notes g.A.Askers.pages g.A.Askers.stirs heard c.tend-has_heard.new.self c.tend-has_heard.ensures))
    c.call_on-has_called.ensures)
    (turned_page g.A.Askers.gives g.A.Askers.takes g.A.Askers.notes g.A.Askers.pages g.A.Askers.stirs called page c.turn_page-is_over.new.askers c.turn_page-is_over.ensures)
