use Rattle.std.proofs.Common.{add-one, arith}
use Rattle.nq_serving.proofs.TurnsLeave.{gone_all, gone_none, gone_on, gone_stopped}
use Rattle.nq_serving.specs.Turning.{standing}
use Rattle.nq_server.specs.Stepping.{next_of}
use Rattle.nq_clock.specs.Clocks.{clock_told}
use Rattle.nq_link.specs.Links.{link_told}
use Rattle.nq_serving.specs.Extending.{extension_told}
use Rattle.nq_serving.proofs.turning.take_turns.Goals as goal

pub loop-turn-init : goal.loop-turn-init
loop-turn-init g c =
    let clock_of = clock_told g.C.Clock.floor g.C.Clock.readings g.C.Clock.reads in
    let link_of = link_told g.L.Link.sent g.L.Link.waiting g.L.Link.faults g.L.Link.receives in
    record {
      goes = gone_none g.K.Keeper.content g.K.Keeper.faults c.args.turns.policy (extension_told g.W.Extension.owns g.W.Extension.replies) g.K.Keeper.follows
          g.K.Keeper.leaves
          (standing c.args.node.now.server (next_of c.args.node.now.out) (clock_of c.args.clock.now) (link_of c.args.link.now))
          (g.met.K.Keeper.follows_itself c.args.node.now.server.keeper) c.pause.ensures.leaves;
      follows = g.met.K.Keeper.follows_itself c.args.node.now.server.keeper;
    }

pub returns-in-Err-clause-follows : goal.returns-in-Err-clause-follows
returns-in-Err-clause-follows g c = g.met.K.Keeper.follows_on _ _ _ c.loop-turn.invariant.follows c.take_turn.ensures.follows

pub returns-in-Err-clause-turns : goal.returns-in-Err-clause-turns
returns-in-Err-clause-turns g c =
    let clock_of = clock_told g.C.Clock.floor g.C.Clock.readings g.C.Clock.reads in
    let link_of = link_told g.L.Link.sent g.L.Link.waiting g.L.Link.faults g.L.Link.receives in
    gone_stopped g.K.Keeper.content g.K.Keeper.faults c.args.turns.policy (extension_told g.W.Extension.owns g.W.Extension.replies) g.K.Keeper.follows
    g.K.Keeper.leaves g.met.K.Keeper.follows_itself g.met.K.Keeper.follows_on
    c.loop-turn._turn c.args.turns.most c.in-Err.why
    (standing c.args.node.now.server (next_of c.args.node.now.out) (clock_of c.args.clock.now) (link_of c.args.link.now))
    (standing c.loop-turn.node.server (next_of c.loop-turn.node.out) (clock_of c.loop-turn.clock) (link_of c.loop-turn.link))
    (standing c.take_turn.new.node.server (next_of c.take_turn.new.node.out) (clock_of c.take_turn.new.clock) (link_of c.take_turn.new.link))
    c.loop-turn-test.true c.loop-turn.invariant.follows c.take_turn.ensures.follows c.loop-turn.invariant.goes c.in-Err.ensures.turn

pub loop-turn-preserved : goal.loop-turn-preserved
loop-turn-preserved g c =
    let clock_of = clock_told g.C.Clock.floor g.C.Clock.readings g.C.Clock.reads in
    let link_of = link_told g.L.Link.sent g.L.Link.waiting g.L.Link.faults g.L.Link.receives in
    record {
      goes =
          rw add-one (
          gone_on g.K.Keeper.content g.K.Keeper.faults c.args.turns.policy (extension_told g.W.Extension.owns g.W.Extension.replies) g.K.Keeper.follows
          g.K.Keeper.leaves g.met.K.Keeper.follows_itself g.met.K.Keeper.follows_on
          c.loop-turn._turn
          (standing c.args.node.now.server (next_of c.args.node.now.out) (clock_of c.args.clock.now) (link_of c.args.link.now))
          (standing c.loop-turn.node.server (next_of c.loop-turn.node.out) (clock_of c.loop-turn.clock) (link_of c.loop-turn.link))
          (standing c.take_turn.new.node.server (next_of c.take_turn.new.node.out) (clock_of c.take_turn.new.clock) (link_of c.take_turn.new.link))
          c.loop-turn.invariant.follows c.take_turn.ensures.follows c.loop-turn.invariant.goes c.in-Ok.ensures.turn
          );
      follows = g.met.K.Keeper.follows_on _ _ _ c.loop-turn.invariant.follows c.take_turn.ensures.follows;
    }

pub returns-clause-turns : goal.returns-clause-turns
returns-clause-turns g c =
    let clock_of = clock_told g.C.Clock.floor g.C.Clock.readings g.C.Clock.reads in
    let link_of = link_told g.L.Link.sent g.L.Link.waiting g.L.Link.faults g.L.Link.receives in
    gone_all g.K.Keeper.content g.K.Keeper.faults c.args.turns.policy (extension_told g.W.Extension.owns g.W.Extension.replies) g.K.Keeper.follows
    g.K.Keeper.leaves c.loop-turn._turn c.args.turns.most
    (standing c.args.node.now.server (next_of c.args.node.now.out) (clock_of c.args.clock.now) (link_of c.args.link.now))
    (standing c.loop-turn.node.server (next_of c.loop-turn.node.out) (clock_of c.loop-turn.clock) (link_of c.loop-turn.link))
    (omega (arith, c.loop-turn-test.false, c.loop-turn.auto._turn-end)) c.loop-turn.invariant.goes
