use Rattle.nq_clock.specs.Clocks.{clock_told}
use Rattle.nq_link.specs.Links.{link_told}
use Rattle.nq_living.proofs.Lives.{gave, gave_none}
use Rattle.nq_living.specs.Living.{life}
use Rattle.nq_living.proofs.calling.call_next.Goals as goal

pub returns-in-Some : goal.returns-in-Some
returns-in-Some g c =
    let clock_of = clock_told g.C.Clock.floor g.C.Clock.readings g.C.Clock.reads in
    let link_of = link_told g.L.Link.sent g.L.Link.waiting g.L.Link.faults g.L.Link.receives in
    gave g.A.Askers.gives g.A.Askers.takes g.A.Askers.notes g.A.Askers.pages g.A.Askers.stirs (life c.args.host.now (clock_of c.args.clock.now) (link_of c.args.link.now) c.args.askers.now)
    (life c.make.new.host (clock_of c.make.new.clock) (link_of c.make.new.link) c.make.new.askers) c.in-Some.call c.next_call.new.self c.requires c.in-Some.ensures c.make.ensures

pub returns-in-None : goal.returns-in-None
returns-in-None g c =
    let clock_of = clock_told g.C.Clock.floor g.C.Clock.readings g.C.Clock.reads in
    let link_of = link_told g.L.Link.sent g.L.Link.waiting g.L.Link.faults g.L.Link.receives in
    gave_none g.A.Askers.gives g.A.Askers.takes g.A.Askers.notes g.A.Askers.pages g.A.Askers.stirs (life c.args.host.now (clock_of c.args.clock.now) (link_of c.args.link.now) c.args.askers.now)
    c.next_call.new.self c.in-None.ensures
