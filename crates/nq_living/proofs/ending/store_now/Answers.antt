use Rattle.nq_clock.specs.Clocks.{clock_told}
use Rattle.nq_link.specs.Links.{link_told}
use Rattle.nq_living.proofs.Lives.{gave}
use Rattle.nq_living.specs.Living.{life}
use Rattle.nq_living.proofs.ending.store_now.Goals as goal

pub returns-in-Some : goal.returns-in-Some
returns-in-Some g c =
    let clock_of = clock_told g.C.Clock.floor g.C.Clock.readings g.C.Clock.reads in
    let link_of = link_told g.L.Link.sent g.L.Link.waiting g.L.Link.faults g.L.Link.receives in
    gave g.A.Askers.gives g.A.Askers.takes g.A.Askers.notes g.A.Askers.pages g.A.Askers.stirs (life c.args.host.now (clock_of c.args.clock.now) (link_of c.args.link.now) c.args.askers.now)
    (life c.make-answered.new.host (clock_of c.make-answered.new.clock) (link_of c.make-answered.new.link) c.make-answered.new.askers) c.last_call-call.result c.last_call-call.new.self c.requires c.last_call-call.ensures c.make-answered.ensures
