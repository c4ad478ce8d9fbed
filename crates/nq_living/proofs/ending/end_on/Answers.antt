use Rattle.nq_clock.specs.Clocks.{clock_told}
use Rattle.nq_link.specs.Links.{link_told}
use Rattle.nq_living.proofs.Lives.{stirred_by, then}
use Rattle.nq_living.specs.Living.{life}
use Rattle.nq_living.proofs.ending.end_on.Goals as goal

pub returns : goal.returns
returns g c =
    let clock_of = clock_told g.C.Clock.floor g.C.Clock.readings g.C.Clock.reads in
    let link_of = link_told g.L.Link.sent g.L.Link.waiting g.L.Link.faults g.L.Link.receives in
    let stored = (life c.store_all.new.host (clock_of c.store_all.new.clock) (link_of c.store_all.new.link) c.store_all.new.askers) in
    then g.A.Askers.gives g.A.Askers.takes g.A.Askers.notes g.A.Askers.pages g.A.Askers.stirs (life c.args.host.now (clock_of c.args.clock.now) (link_of c.args.link.now) c.args.askers.now)
    stored (record stored { askers = c.end.new.self }) c.store_all.ensures (stirred_by g.A.Askers.gives g.A.Askers.takes g.A.Askers.notes g.A.Askers.pages g.A.Askers.stirs stored c.end.new.self c.end.ensures)
