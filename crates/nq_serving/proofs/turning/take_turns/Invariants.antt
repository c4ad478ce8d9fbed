use Rattle.nq_serving.proofs.TurnsLeave.{GoneOn}
use Rattle.nq_serving.specs.Turning.{standing}
use Rattle.nq_server.specs.Stepping.{next_of}
use Rattle.nq_clock.specs.Clocks.{clock_told}
use Rattle.nq_link.specs.Links.{link_told}
use Rattle.nq_serving.specs.Extending.{extension_told}
use Rattle.nq_serving.proofs.turning.take_turns.Given as goal

abbrev pub invariant-loop-turn : goal.invariant-loop-turn
invariant-loop-turn g l =
    let clock_of = clock_told g.C.Clock.floor g.C.Clock.readings g.C.Clock.reads in
    let link_of = link_told g.L.Link.sent g.L.Link.waiting g.L.Link.faults g.L.Link.receives in
    record {
      goes : GoneOn g.K.Keeper.content g.K.Keeper.faults l.fn.turns.policy (extension_told g.W.Extension.owns g.W.Extension.replies) g.K.Keeper.follows
          g.K.Keeper.leaves l._turn
          (standing l.fn.node.server (next_of l.fn.node.out) (clock_of l.fn.clock) (link_of l.fn.link))
          (standing l.node.server (next_of l.node.out) (clock_of l.clock) (link_of l.link));
      follows : g.K.Keeper.follows l.fn.node.server.keeper l.node.server.keeper;
    }
