use Rattle.nq_clock.specs.Clocks.{clock_told}
use Rattle.nq_link.specs.Links.{link_told}
use Rattle.nq_living.proofs.Lives.{then}
use Rattle.nq_living.specs.Living.{life}
use Rattle.nq_living.proofs.living.live.Goals as goal

pub returns-in-Some-clause-lives : goal.returns-in-Some-clause-lives
returns-in-Some-clause-lives g c =
    let clock_of = clock_told g.C.Clock.floor g.C.Clock.readings g.C.Clock.reads in
    let link_of = link_told g.L.Link.sent g.L.Link.waiting g.L.Link.faults g.L.Link.receives in
    then g.A.Askers.gives g.A.Askers.takes g.A.Askers.notes g.A.Askers.pages g.A.Askers.stirs (life c.args.host.now (clock_of c.args.clock.now) (link_of c.args.link.now) c.args.askers.now)
    (life c.loop-round.host (clock_of c.loop-round.clock) (link_of c.loop-round.link) c.loop-round.askers)
    (life c.live_on.new.host (clock_of c.live_on.new.clock) (link_of c.live_on.new.link) c.live_on.new.askers) c.loop-round.invariant c.live_on.ensures.lives

pub loop-round-preserved : goal.loop-round-preserved
loop-round-preserved g c =
    let clock_of = clock_told g.C.Clock.floor g.C.Clock.readings g.C.Clock.reads in
    let link_of = link_told g.L.Link.sent g.L.Link.waiting g.L.Link.faults g.L.Link.receives in
    then g.A.Askers.gives g.A.Askers.takes g.A.Askers.notes g.A.Askers.pages g.A.Askers.stirs (life c.args.host.now (clock_of c.args.clock.now) (link_of c.args.link.now) c.args.askers.now)
    (life c.loop-round.host (clock_of c.loop-round.clock) (link_of c.loop-round.link) c.loop-round.askers)
    (life c.live_on.new.host (clock_of c.live_on.new.clock) (link_of c.live_on.new.link) c.live_on.new.askers) c.loop-round.invariant c.live_on.ensures.lives
