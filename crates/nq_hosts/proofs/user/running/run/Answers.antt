use Rattle.std.proofs.Common.{◌≡◌, [], IfOk, Ok, Err, refl, subst}
use Rattle.nq_clock.specs.Clocks.{clock_told}
use Rattle.nq_link.specs.Links.{link_told}
use Rattle.nq_hosts.specs.UserTurning.{Between, between}
use Rattle.nq_hosts.proofs.user.running.run.Goals as goal

pub returns-in-Err : goal.returns-in-Err
returns-in-Err g c =
    let clock_of = clock_told g.C.Clock.floor g.C.Clock.readings g.C.Clock.reads in
    let link_of = link_told g.L.Link.sent g.L.Link.waiting g.L.Link.faults g.L.Link.receives in (
      c.unwrap-log.result,
      subst (λ r. IfOk r (λ j. j.entries ≡ [])) c.unwrap-log.ensures c.new.ensures.empty,
      record {
        time = c.now-now.result;
        clock_read = clock_of c.now-now.new.self;
        read = record { rises = c.now-now.ensures.rises; floor = c.now-now.ensures.floor; below = c.now-now.ensures.below; told = c.now-now.ensures.told; once = c.now-now.ensures.reads };
        begun = Err c.in-Err.why;
        link_begun = link_of c.begin.new.link;
        begins = c.in-Err.ensures;
        rest = (refl, refl, refl, refl);
      },
    )

pub returns-in-Ok : goal.returns-in-Ok
returns-in-Ok g c =
    let clock_of = clock_told g.C.Clock.floor g.C.Clock.readings g.C.Clock.reads in
    let link_of = link_told g.L.Link.sent g.L.Link.waiting g.L.Link.faults g.L.Link.receives in
    let last : Between = between c.attend-ended.new.session (clock_of c.attend-ended.new.clock) (link_of c.attend-ended.new.link) in (
      c.unwrap-log.result,
      subst (λ r. IfOk r (λ j. j.entries ≡ [])) c.unwrap-log.ensures c.new.ensures.empty,
      record {
        time = c.now-now.result;
        clock_read = clock_of c.now-now.new.self;
        read = record { rises = c.now-now.ensures.rises; floor = c.now-now.ensures.floor; below = c.now-now.ensures.below; told = c.now-now.ensures.told; once = c.now-now.ensures.reads };
        begun = Ok c.in-Ok.client;
        link_begun = link_of c.begin.new.link;
        begins = c.in-Ok.ensures;
        rest = record {
          last = last;
          attends = c.attend-ended.ensures;
          logs = refl;
          clocks = refl;
          links = refl;
        };
      },
    )
