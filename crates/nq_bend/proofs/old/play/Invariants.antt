use Rattle.std.specs.List.{AllByRecursion}
use Rattle.nq_bend.proofs.old.play.Given as goal
use Rattle.nq_replay.specs.Texts.{IsTellable}
use Rattle.nq_world.specs.Playing.{HasSettings}

abbrev pub invariant-loop-turn : goal.invariant-loop-turn
invariant-loop-turn g l = record {
  settings : HasSettings l.script.head.hosts l.script.head.longest l.script.head.term l.world;
  told : AllByRecursion (IsTellable l.script.head) l.run.events;
}
