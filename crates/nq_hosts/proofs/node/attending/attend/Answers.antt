use Rattle.nq_clock.specs.Clocks.{clock_told}
use Rattle.nq_link.specs.Links.{link_told}
use Rattle.nq_hosts.proofs.ClientTurns.{stopped, went_on}
use Rattle.nq_hosts.proofs.node.attending.attend.Goals as goal

pub returns-in-Ok : goal.returns-in-Ok
returns-in-Ok g c =
    let clock_of = clock_told g.C.Clock.floor g.C.Clock.readings g.C.Clock.reads in
    let link_of = link_told g.L.Link.sent g.L.Link.waiting g.L.Link.faults g.L.Link.receives in
    went_on c.go_on.result c.in-Ok.ticked c.now-reading.result (clock_of c.args.clock.now) (clock_of c.now-reading.new.self)
    (link_of c.args.link.now)
    (link_of c.go_on.new.link)
    (record { client = c.args.client.now; out = c.args.out.now; log = c.args.log.now; next = c.args.next.now })
    (record { client = c.tick_to.new.client; out = c.tick_to.new.out; log = c.tick_to.new.log; next = c.args.next.now })
    (record { client = c.go_on.new.client; out = c.go_on.new.out; log = c.go_on.new.log; next = c.go_on.new.next })
    (record {
      rises = c.now-reading.ensures.rises;
      floor = c.now-reading.ensures.floor;
      below = c.now-reading.ensures.below;
      told = c.now-reading.ensures.told;
      once = c.now-reading.ensures.reads;
    }) c.in-Ok.ensures c.go_on.ensures

pub returns-in-Err : goal.returns-in-Err
returns-in-Err g c =
    let clock_of = clock_told g.C.Clock.floor g.C.Clock.readings g.C.Clock.reads in
    let link_of = link_told g.L.Link.sent g.L.Link.waiting g.L.Link.faults g.L.Link.receives in
    stopped c.in-Err.why c.now-reading.result (clock_of c.args.clock.now) (clock_of c.now-reading.new.self)
    (link_of c.args.link.now)
    (record { client = c.args.client.now; out = c.args.out.now; log = c.args.log.now; next = c.args.next.now })
    (record { client = c.tick_to.new.client; out = c.tick_to.new.out; log = c.tick_to.new.log; next = c.args.next.now })
    (record {
      rises = c.now-reading.ensures.rises;
      floor = c.now-reading.ensures.floor;
      below = c.now-reading.ensures.below;
      told = c.now-reading.ensures.told;
      once = c.now-reading.ensures.reads;
    }) c.in-Err.ensures
