use Rattle.std.proofs.Common.{◌≡◌, length}
use Rattle.nq_clock.specs.Clocks.{clock_told}
use Rattle.nq_loop.proofs.Takings.{now_at}
use Rattle.nq_loop.specs.Holding.{IsLooping, loop_of}
use Rattle.nq_loop.specs.Turning.{Goes}
use Rattle.nq_model.specs.protocol.World.{Head}
use Rattle.nq_loop.proofs.taking.take_turns.Given as goal

abbrev pub invariant-loop-turn : goal.invariant-loop-turn
invariant-loop-turn g l = record {
  goes : (head : Head) → head.hosts ≡ length l.fn.looping.state.begun → IsLooping head (loop_of g.P.Keeper.content g.L.Link.sent g.L.Link.waiting
      g.L.Link.faults g.L.Link.receives l.fn.looping.world l.fn.looping.state l.fn.looping.ran l.fn.links)
      → Goes head l.turn (now_at (loop_of g.P.Keeper.content g.L.Link.sent g.L.Link.waiting g.L.Link.faults g.L.Link.receives l.fn.looping.world
      l.fn.looping.state
      l.fn.looping.ran l.fn.links) (clock_told g.C.Clock.floor g.C.Clock.readings g.C.Clock.reads l.fn.clock))
      (now_at (loop_of g.P.Keeper.content g.L.Link.sent g.L.Link.waiting g.L.Link.faults g.L.Link.receives l.looping.world l.looping.state
      l.looping.ran l.links)
      (clock_told g.C.Clock.floor g.C.Clock.readings g.C.Clock.reads l.clock))
      × IsLooping head (loop_of g.P.Keeper.content g.L.Link.sent g.L.Link.waiting g.L.Link.faults g.L.Link.receives l.looping.world l.looping.state
      l.looping.ran l.links);
  clients : length l.looping.world.clients ≡ length l.fn.looping.world.clients;
  hosts : length l.looping.state.begun ≡ length l.fn.looping.state.begun;
  faults : g.P.Keeper.faults l.looping.world.server.keeper ≡ g.P.Keeper.faults l.fn.looping.world.server.keeper;
  follows : g.P.Keeper.follows l.fn.looping.world.server.keeper l.looping.world.server.keeper;
}
