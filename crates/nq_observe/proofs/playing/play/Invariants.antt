use Rattle.std.proofs.Common.{◌≡◌, length}
use Rattle.nq_observe.proofs.playing.play.Given as goal

abbrev pub invariant-loop-turn : goal.invariant-loop-turn
invariant-loop-turn g l = record {
  hosts : l.script.head.hosts ≡ length l.world.clients;
  longest : l.script.head.longest ≡ l.world.skew.window;
}
