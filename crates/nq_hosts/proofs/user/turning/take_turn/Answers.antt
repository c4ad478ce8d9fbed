use Rattle.nq_clock.specs.Clocks.{clock_told}
use Rattle.nq_link.specs.Links.{link_told}
use Rattle.nq_hosts.proofs.UserCauses.{stops}
use Rattle.nq_hosts.specs.UserTurning.{Between, between}
use Rattle.nq_hosts.proofs.user.turning.take_turn.Goals as goal

pub returns-in-Ok : goal.returns-in-Ok
returns-in-Ok g c = record { answer = c.in-Ok._answer; took = c.in-Ok.ensures.turn; so = c.is_reached.ensures }

pub returns-in-Err : goal.returns-in-Err
returns-in-Err g c =
    let clock_of = clock_told g.C.Clock.floor g.C.Clock.readings g.C.Clock.reads in
    let link_of = link_told g.L.Link.sent g.L.Link.waiting g.L.Link.faults g.L.Link.receives in
    let at : Between = between c.args.session.now (clock_of c.args.clock.now) (link_of c.args.link.now) in
    let after : Between = record {
      client = c.client_turn.new.client;
      log = c.client_turn.new.log;
      next = c.client_turn.new.next;
      clock = clock_of c.client_turn.new.clock;
      link = link_of c.client_turn.new.link;
    } in
    stops c.in-Err.why at after c.in-Err.ensures.turn
