use Rattle.std.proofs.Common.{◌≤◌, length}
use Rattle.nq_bend.specs.Course.{HasHead, IsOn, IsPlayed}
use Rattle.nq_bend.proofs.bending.play.Given as goal

abbrev pub invariant-loop-place : goal.invariant-loop-place
invariant-loop-place g l = record {
  settings : HasHead l.plan l.world;
  few : l.place ≤ length l.plan.old.now.events;
  goes : IsOn l.plan l.place l.course;
  played : IsPlayed l.plan.head.now l.world (g.K.Keeper.content l.world.server.keeper) l.course;
}
