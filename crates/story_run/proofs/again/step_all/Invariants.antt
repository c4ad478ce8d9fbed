use Rattle.std.proofs.Common.{◌≡◌, length}
use Rattle.story_run.proofs.again.step_all.Given as goal

abbrev pub invariant-loop-place : goal.invariant-loop-place
invariant-loop-place g l = record {
  hosts : l.script.head.hosts ≡ length l.world.clients;
  longest : l.script.head.longest ≡ l.world.skew.window;
}
