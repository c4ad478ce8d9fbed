use Rattle.std.proofs.Common.{add-one, subst}
use Rattle.nq_clock.specs.Clocks.{clock_told}
use Rattle.nq_link.specs.Links.{link_told}
use Rattle.nq_hosts.specs.UserTurning.{Between, Turns, between}
use Rattle.nq_hosts.proofs.UserRuns.{stopped}
use Rattle.nq_hosts.proofs.user.turning.take_turns.Goals as goal

pub returns-then-done : goal.returns-then-done
returns-then-done g c =
    let clock_of = clock_told g.C.Clock.floor g.C.Clock.readings g.C.Clock.reads in
    let link_of = link_told g.L.Link.sent g.L.Link.waiting g.L.Link.faults g.L.Link.receives in
    let before : Between = between c.loop-turn.session (clock_of c.loop-turn.clock) (link_of c.loop-turn.link) in
    let after : Between = between c.take_turn.new.session (clock_of c.take_turn.new.clock) (link_of c.take_turn.new.link) in
    record {
      count = c.loop-turn._turn;
      fewer = c.loop-turn-test.true;
      between = between c.loop-turn.session (clock_of c.loop-turn.clock) (link_of c.loop-turn.link);
      before = c.loop-turn.invariant;
      last = subst (λ done. Turns c.args.aim done before after) c.if-done.true c.in-Ok.ensures;
    }

pub returns-in-Err : goal.returns-in-Err
returns-in-Err g c =
    let clock_of = clock_told g.C.Clock.floor g.C.Clock.readings g.C.Clock.reads in
    let link_of = link_told g.L.Link.sent g.L.Link.waiting g.L.Link.faults g.L.Link.receives in
    let at : Between = between c.args.session.now (clock_of c.args.clock.now) (link_of c.args.link.now) in
    let after : Between = between c.take_turn.new.session (clock_of c.take_turn.new.clock) (link_of c.take_turn.new.link) in
    stopped c.args.aim c.args.turns c.in-Err.why at after (record {
      count = c.loop-turn._turn;
      fewer = c.loop-turn-test.true;
      between = between c.loop-turn.session (clock_of c.loop-turn.clock) (link_of c.loop-turn.link);
      before = c.loop-turn.invariant;
      last = c.in-Err.ensures;
    })

pub loop-turn-preserved : goal.loop-turn-preserved
loop-turn-preserved g c =
    let clock_of = clock_told g.C.Clock.floor g.C.Clock.readings g.C.Clock.reads in
    let link_of = link_told g.L.Link.sent g.L.Link.waiting g.L.Link.faults g.L.Link.receives in
    let before : Between = between c.loop-turn.session (clock_of c.loop-turn.clock) (link_of c.loop-turn.link) in
    let after : Between = between c.take_turn.new.session (clock_of c.take_turn.new.clock) (link_of c.take_turn.new.link) in
    rw add-one (before, c.loop-turn.invariant, subst (λ done. Turns c.args.aim done before after) c.if-done.false c.in-Ok.ensures)
