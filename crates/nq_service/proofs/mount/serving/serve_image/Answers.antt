use Rattle.nq_clock.specs.Clocks.{clock_told}
use Rattle.nq_link.specs.Links.{link_told}
use Rattle.nq_service.proofs.Opened.{of_ok}
use Rattle.nq_service.proofs.MountSurviving.{refuses, serves_opened}
use Rattle.nq_serving.specs.Extending.{extension_told}
use Rattle.nq_service.proofs.mount.serving.serve_image.Goals as goal

pub returns-in-Ok-clause-serves : goal.returns-in-Ok-clause-serves
returns-in-Ok-clause-serves g c =
    let clock_of = clock_told g.C.Clock.floor g.C.Clock.readings g.C.Clock.reads in
    let link_of = link_told g.L.Link.sent g.L.Link.waiting g.L.Link.faults g.L.Link.receives in
    let D = g.D.Disk in
    let met = g.met.D.Disk in
    let opens = of_ok D.told D.faults D.may_leave D.follows D.leaves c.args.disk c.in-Ok.store c.in-Ok.ensures.opens in
    serves_opened D.told D.faults D.may_leave D.follows D.leaves (extension_told g.W.Extension.owns g.W.Extension.replies) c.args.longest c.args.turns c.args.disk c.in-Ok.store c.serve_store.result.end
    c.serve_store.result.left (clock_of c.args.clock.now) (clock_of c.serve_store.new.clock) (link_of c.args.link.now) (link_of c.serve_store.new.link)
    opens met.told_may_stay met.leaves_ends met.parts met.follows_on met.rises c.serve_store.ensures

pub returns-in-Err-clause-refuses : goal.returns-in-Err-clause-refuses
returns-in-Err-clause-refuses g c =
    let clock_of = clock_told g.C.Clock.floor g.C.Clock.readings g.C.Clock.reads in
    let link_of = link_told g.L.Link.sent g.L.Link.waiting g.L.Link.faults g.L.Link.receives in
    let D = g.D.Disk in
    let met = g.met.D.Disk in
    refuses D.told D.faults D.may_leave D.follows D.leaves c.args.disk c.in-Err.fault (clock_of c.args.clock.now) (link_of c.args.link.now)
    c.in-Err.ensures.opens met.told_may_stay met.leaves_ends met.parts
