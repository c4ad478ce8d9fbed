use Rattle.nq_clock.specs.Clocks.{clock_told}
use Rattle.nq_link.specs.Links.{link_told}
use Rattle.nq_living.proofs.Lives.{stirred_by, then}
use Rattle.nq_living.specs.Living.{life}
use Rattle.nq_living.proofs.ending.store_all.Goals as goal

pub returns-then-is_some : goal.returns-then-is_some
returns-then-is_some g c =
    let clock_of = clock_told g.C.Clock.floor g.C.Clock.readings g.C.Clock.reads in
    let link_of = link_told g.L.Link.sent g.L.Link.waiting g.L.Link.faults g.L.Link.receives in
    then g.A.Askers.gives g.A.Askers.takes g.A.Askers.notes g.A.Askers.pages g.A.Askers.stirs (life c.args.host.now (clock_of c.args.clock.now) (link_of c.args.link.now) c.args.askers.now)
    (life c.loop-look.host (clock_of c.loop-look.clock) (link_of c.loop-look.link) c.loop-look.askers)
    (life c.hear.new.host (clock_of c.hear.new.clock) (link_of c.hear.new.link) c.hear.new.askers) c.loop-look.invariant c.hear.ensures

pub loop-look-preserved : goal.loop-look-preserved
loop-look-preserved g c =
    let clock_of = clock_told g.C.Clock.floor g.C.Clock.readings g.C.Clock.reads in
    let link_of = link_told g.L.Link.sent g.L.Link.waiting g.L.Link.faults g.L.Link.receives in
    let start = (life c.args.host.now (clock_of c.args.clock.now) (link_of c.args.link.now) c.args.askers.now) in
    let begun = (life c.loop-look.host (clock_of c.loop-look.clock) (link_of c.loop-look.link) c.loop-look.askers) in
    let heard = (life c.hear.new.host (clock_of c.hear.new.clock) (link_of c.hear.new.link) c.hear.new.askers) in
    let stored = (life c.store_on.new.host (clock_of c.store_on.new.clock) (link_of c.store_on.new.link) c.store_on.new.askers) in
    then g.A.Askers.gives g.A.Askers.takes g.A.Askers.notes g.A.Askers.pages g.A.Askers.stirs start stored (record stored { askers = c.rest.new.self })
    (then g.A.Askers.gives g.A.Askers.takes g.A.Askers.notes g.A.Askers.pages g.A.Askers.stirs start heard stored (then g.A.Askers.gives g.A.Askers.takes g.A.Askers.notes g.A.Askers.pages g.A.Askers.stirs start begun heard c.loop-look.invariant c.hear.ensures) c.store_on.ensures)
    (stirred_by g.A.Askers.gives g.A.Askers.takes g.A.Askers.notes g.A.Askers.pages g.A.Askers.stirs stored c.rest.new.self c.rest.ensures)
