use Rattle.std.proofs.Common.{Ok, Err, refl}
use Rattle.nq_clock.specs.Clocks.{clock_told}
use Rattle.nq_link.specs.Links.{link_told}
use Rattle.nq_hosts.specs.UserTurning.{between}
use Rattle.nq_hosts.proofs.user.running.attend.Goals as goal

pub returns-in-Err : goal.returns-in-Err
returns-in-Err g c =
    let clock_of = clock_told g.C.Clock.floor g.C.Clock.readings g.C.Clock.reads in
    let link_of = link_told g.L.Link.sent g.L.Link.waiting g.L.Link.faults g.L.Link.receives in (
      Err c.in-Err.why,
      between c.take_turns.new.session (clock_of c.take_turns.new.clock) (link_of c.take_turns.new.link),
      c.in-Err.ensures,
      (refl, refl),
    )

pub returns-in-Ok : goal.returns-in-Ok
returns-in-Ok g c =
    let clock_of = clock_told g.C.Clock.floor g.C.Clock.readings g.C.Clock.reads in
    let link_of = link_told g.L.Link.sent g.L.Link.waiting g.L.Link.faults g.L.Link.receives in (
      Ok tt,
      between c.take_turns.new.session (clock_of c.take_turns.new.clock) (link_of c.take_turns.new.link),
      c.in-Ok.ensures,
      c.run_lines.ensures,
    )
