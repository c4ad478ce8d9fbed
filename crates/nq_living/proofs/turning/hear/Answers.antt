use Rattle.nq_clock.specs.Clocks.{clock_told}
use Rattle.nq_link.specs.Links.{link_told}
use Rattle.nq_living.proofs.Lives.{then}
use Rattle.nq_living.specs.Living.{life}
use Rattle.nq_living.proofs.turning.hear.Goals as goal

pub returns-then-is_some : goal.returns-then-is_some
returns-then-is_some g c =
    let clock_of = clock_told g.C.Clock.floor g.C.Clock.readings g.C.Clock.reads in
    let link_of = link_told g.L.Link.sent g.L.Link.waiting g.L.Link.faults g.L.Link.receives in
    then g.A.Askers.gives g.A.Askers.takes g.A.Askers.notes g.A.Askers.pages g.A.Askers.stirs (life c.args.host.now (clock_of c.args.clock.now) (link_of c.args.link.now) c.args.askers.now)
    (life c.loop-turn.host (clock_of c.loop-turn.clock) (link_of c.loop-turn.link) c.loop-turn.askers)
    (life c.turn.new.host (clock_of c.turn.new.clock) (link_of c.turn.new.link) c.turn.new.askers) c.loop-turn.invariant c.turn.ensures

pub loop-turn-preserved : goal.loop-turn-preserved
loop-turn-preserved g c =
    let clock_of = clock_told g.C.Clock.floor g.C.Clock.readings g.C.Clock.reads in
    let link_of = link_told g.L.Link.sent g.L.Link.waiting g.L.Link.faults g.L.Link.receives in
    then g.A.Askers.gives g.A.Askers.takes g.A.Askers.notes g.A.Askers.pages g.A.Askers.stirs (life c.args.host.now (clock_of c.args.clock.now) (link_of c.args.link.now) c.args.askers.now)
    (life c.loop-turn.host (clock_of c.loop-turn.clock) (link_of c.loop-turn.link) c.loop-turn.askers)
    (life c.turn.new.host (clock_of c.turn.new.clock) (link_of c.turn.new.link) c.turn.new.askers) c.loop-turn.invariant c.turn.ensures
