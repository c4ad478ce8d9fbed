use Rattle.nq_clock.specs.Clocks.{clock_told}
use Rattle.nq_link.specs.Links.{link_told}
use Rattle.nq_living.proofs.Lives.{stirred_by, then}
use Rattle.nq_living.specs.Living.{life}
use Rattle.nq_living.proofs.living.live_on.Goals as goal

pub returns-then-not-wait-clause-lives : goal.returns-then-not-wait-clause-lives
returns-then-not-wait-clause-lives g c =
    let clock_of = clock_told g.C.Clock.floor g.C.Clock.readings g.C.Clock.reads in
    let link_of = link_told g.L.Link.sent g.L.Link.waiting g.L.Link.faults g.L.Link.receives in
    stirred_by g.A.Askers.gives g.A.Askers.takes g.A.Askers.notes g.A.Askers.pages g.A.Askers.stirs (life c.args.host.now (clock_of c.args.clock.now) (link_of c.args.link.now) c.args.askers.now)
    c.wait.new.self c.wait.ensures

pub returns-then-is_some-clause-lives : goal.returns-then-is_some-clause-lives
returns-then-is_some-clause-lives g c =
    let clock_of = clock_told g.C.Clock.floor g.C.Clock.readings g.C.Clock.reads in
    let link_of = link_told g.L.Link.sent g.L.Link.waiting g.L.Link.faults g.L.Link.receives in
    let start = (life c.args.host.now (clock_of c.args.clock.now) (link_of c.args.link.now) c.args.askers.now) in
    let waited = record start { askers = c.wait.new.self } in
    let round = (life c.round.new.host (clock_of c.round.new.clock) (link_of c.round.new.link) c.round.new.askers) in
    then g.A.Askers.gives g.A.Askers.takes g.A.Askers.notes g.A.Askers.pages g.A.Askers.stirs start waited round (stirred_by g.A.Askers.gives g.A.Askers.takes g.A.Askers.notes g.A.Askers.pages g.A.Askers.stirs start c.wait.new.self c.wait.ensures) c.round.ensures

pub returns-then-end_on-clause-lives : goal.returns-then-end_on-clause-lives
returns-then-end_on-clause-lives g c =
    let clock_of = clock_told g.C.Clock.floor g.C.Clock.readings g.C.Clock.reads in
    let link_of = link_told g.L.Link.sent g.L.Link.waiting g.L.Link.faults g.L.Link.receives in
    let start = (life c.args.host.now (clock_of c.args.clock.now) (link_of c.args.link.now) c.args.askers.now) in
    let waited = record start { askers = c.wait.new.self } in
    let round = (life c.round.new.host (clock_of c.round.new.clock) (link_of c.round.new.link) c.round.new.askers) in
    let ended = (life c.end_on.new.host (clock_of c.end_on.new.clock) (link_of c.end_on.new.link) c.end_on.new.askers) in
    then g.A.Askers.gives g.A.Askers.takes g.A.Askers.notes g.A.Askers.pages g.A.Askers.stirs start round ended
    (then g.A.Askers.gives g.A.Askers.takes g.A.Askers.notes g.A.Askers.pages g.A.Askers.stirs start waited round (stirred_by g.A.Askers.gives g.A.Askers.takes g.A.Askers.notes g.A.Askers.pages g.A.Askers.stirs start c.wait.new.self c.wait.ensures) c.round.ensures) c.end_on.ensures

pub returns-else-end_on-clause-lives : goal.returns-else-end_on-clause-lives
returns-else-end_on-clause-lives g c =
    let clock_of = clock_told g.C.Clock.floor g.C.Clock.readings g.C.Clock.reads in
    let link_of = link_told g.L.Link.sent g.L.Link.waiting g.L.Link.faults g.L.Link.receives in
    let start = (life c.args.host.now (clock_of c.args.clock.now) (link_of c.args.link.now) c.args.askers.now) in
    let waited = record start { askers = c.wait.new.self } in
    let round = (life c.round.new.host (clock_of c.round.new.clock) (link_of c.round.new.link) c.round.new.askers) in
    let ended = (life c.end_on.new.host (clock_of c.end_on.new.clock) (link_of c.end_on.new.link) c.end_on.new.askers) in
    then g.A.Askers.gives g.A.Askers.takes g.A.Askers.notes g.A.Askers.pages g.A.Askers.stirs start round ended
    (then g.A.Askers.gives g.A.Askers.takes g.A.Askers.notes g.A.Askers.pages g.A.Askers.stirs start waited round (stirred_by g.A.Askers.gives g.A.Askers.takes g.A.Askers.notes g.A.Askers.pages g.A.Askers.stirs start c.wait.new.self c.wait.ensures) c.round.ensures) c.end_on.ensures
