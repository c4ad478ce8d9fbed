use Rattle.std.proofs.Common.{◌≡◌, length, take, Ok}
use Rattle.nq_loop.specs.Holding.{IsLooping, Keeps, Loops, loop_of}
use Rattle.nq_loop.specs.Looping.{turn_steps}
use Rattle.nq_model.specs.protocol.World.{Head}
use Rattle.nq_loop.proofs.deeds.take_steps.Given as goal

abbrev pub invariant-loop-place : goal.invariant-loop-place
invariant-loop-place g l = record {
  loops : (head : Head) → head.hosts ≡ length l.fn.looping.state.begun → IsLooping head (loop_of g.K.Keeper.content g.L.Link.sent g.L.Link.waiting
      g.L.Link.faults g.L.Link.receives l.fn.looping.world l.fn.looping.state l.fn.looping.ran l.fn.links)
      → Loops head (take l.place (turn_steps head.hosts l.rounds)) (Ok l.any) (loop_of g.K.Keeper.content g.L.Link.sent g.L.Link.waiting
      g.L.Link.faults g.L.Link.receives l.fn.looping.world l.fn.looping.state l.fn.looping.ran l.fn.links)
      (loop_of g.K.Keeper.content g.L.Link.sent g.L.Link.waiting g.L.Link.faults g.L.Link.receives l.looping.world l.looping.state l.looping.ran l.links);
  keeps : Keeps (Ok l.any) (g.K.Keeper.faults l.fn.looping.world.server.keeper) (g.K.Keeper.faults l.looping.world.server.keeper) (length
      l.fn.looping.world.clients)
      (length l.looping.world.clients) (length l.fn.looping.state.begun) (length l.looping.state.begun);
  follows : g.K.Keeper.follows l.fn.looping.world.server.keeper l.looping.world.server.keeper;
}
