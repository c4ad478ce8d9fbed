use Rattle.std.proofs.Common.{Ok, Err, refl, sym, ◌∙◌}
use Rattle.nq_clock.specs.Clocks.{clock_told}
use Rattle.nq_link.specs.Links.{link_told}
use Rattle.nq_hosts.specs.UserTurning.{reached, between}
use Rattle.nq_hosts.specs.declared.user.aims.Aim.{Aim}
use Rattle.nq_hosts.proofs.UserRuns.{at_once, later}
use Rattle.nq_hosts.proofs.user.calling.run_call.Goals as goal

pub returns-in-Err : goal.returns-in-Err
returns-in-Err g c =
    let link_of = link_told g.L.Link.sent g.L.Link.waiting g.L.Link.faults g.L.Link.receives in
    record {
      client = c.make_call.new.client;
      log = c.make_call.new.log;
      link = link_of c.make_call.new.link;
      made = Err c.in-Err.why;
      makes = c.in-Err.ensures;
      rest = (refl, refl);
    }

pub returns-then-is_reached : goal.returns-then-is_reached
returns-then-is_reached g c =
    let clock_of = clock_told g.C.Clock.floor g.C.Clock.readings g.C.Clock.reads in
    let link_of = link_told g.L.Link.sent g.L.Link.waiting g.L.Link.faults g.L.Link.receives in
    record {
      client = c.make_call.new.client;
      log = c.make_call.new.log;
      link = link_of c.make_call.new.link;
      made = Ok tt;
      makes = c.in-Ok.ensures;
      rest = at_once c.args.turns (reached Aim.Answered c.make_call.new.client.client)
          (record {
            client = c.make_call.new.client;
            log = c.make_call.new.log;
            next = c.args.session.now.next;
            clock = clock_of c.args.clock.now;
            link = link_of c.make_call.new.link;
          })
          (sym c.is_reached.ensures ∙ c.if-is_reached.true);
    }

pub returns-else-is_reached : goal.returns-else-is_reached
returns-else-is_reached g c =
    let clock_of = clock_told g.C.Clock.floor g.C.Clock.readings g.C.Clock.reads in
    let link_of = link_told g.L.Link.sent g.L.Link.waiting g.L.Link.faults g.L.Link.receives in
    record {
      client = c.make_call.new.client;
      log = c.make_call.new.log;
      link = link_of c.make_call.new.link;
      made = Ok tt;
      makes = c.in-Ok.ensures;
      rest = later c.args.turns (reached Aim.Answered c.make_call.new.client.client) c.take_turns.result
          (record {
            client = c.make_call.new.client;
            log = c.make_call.new.log;
            next = c.args.session.now.next;
            clock = clock_of c.args.clock.now;
            link = link_of c.make_call.new.link;
          })
          (between c.take_turns.new.session (clock_of c.take_turns.new.clock) (link_of c.take_turns.new.link))
          (sym c.is_reached.ensures ∙ c.if-is_reached.false) c.take_turns.ensures;
    }
