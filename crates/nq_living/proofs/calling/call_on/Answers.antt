use Rattle.nq_clock.specs.Clocks.{clock_told}
use Rattle.nq_link.specs.Links.{link_told}
use Rattle.nq_living.proofs.Lives.{then}
use Rattle.nq_living.specs.Living.{life}
use Rattle.nq_living.proofs.calling.call_on.Goals as goal

pub returns-then-not-call_next : goal.returns-then-not-call_next
returns-then-not-call_next g c =
    let clock_of = clock_told g.C.Clock.floor g.C.Clock.readings g.C.Clock.reads in
    let link_of = link_told g.L.Link.sent g.L.Link.waiting g.L.Link.faults g.L.Link.receives in
    then g.A.Askers.gives g.A.Askers.takes g.A.Askers.notes g.A.Askers.pages g.A.Askers.stirs (life c.args.host.now (clock_of c.args.clock.now) (link_of c.args.link.now) c.args.askers.now)
    (life c.loop-call.host (clock_of c.loop-call.clock) (link_of c.loop-call.link) c.loop-call.askers)
    (life c.call_next.new.host (clock_of c.call_next.new.clock) (link_of c.call_next.new.link) c.call_next.new.askers) c.loop-call.invariant c.call_next.ensures

pub loop-call-preserved : goal.loop-call-preserved
loop-call-preserved g c =
    let clock_of = clock_told g.C.Clock.floor g.C.Clock.readings g.C.Clock.reads in
    let link_of = link_told g.L.Link.sent g.L.Link.waiting g.L.Link.faults g.L.Link.receives in
    then g.A.Askers.gives g.A.Askers.takes g.A.Askers.notes g.A.Askers.pages g.A.Askers.stirs (life c.args.host.now (clock_of c.args.clock.now) (link_of c.args.link.now) c.args.askers.now)
    (life c.loop-call.host (clock_of c.loop-call.clock) (link_of c.loop-call.link) c.loop-call.askers)
    (life c.call_next.new.host (clock_of c.call_next.new.clock) (link_of c.call_next.new.link) c.call_next.new.askers) c.loop-call.invariant c.call_next.ensures
