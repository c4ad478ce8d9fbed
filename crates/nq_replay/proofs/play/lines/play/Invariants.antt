use Rattle.std.proofs.Common.{◌≡◌, ◌+◌, [], drop}
use Rattle.nq_model.specs.protocol.World.{Head}
use Rattle.nq_replay.proofs.AsidesOnward.{IsOn}
use Rattle.nq_replay.specs.Rules.{play_lines}
use Rattle.nq_replay.specs.RulesGoing.{IsAt}
use Rattle.nq_replay.specs.Text.{mixed}
use Rattle.nq_world.specs.declared.stepped.Stepped.{Stepped}
use Rattle.nq_replay.proofs.play.lines.play.Given as goal

abbrev pub invariant-loop-place : goal.invariant-loop-place
invariant-loop-place g l = record {
  on : (head : Head) (moment : g.W.OuterWorld.Moment) → head.hosts ≡ l.script.head.hosts → g.W.OuterWorld.rules.scheduled moment ≡ []
      → g.W.OuterWorld.plays head moment l.fn.world
      → IsOn (λ next. IsAt g.W.OuterWorld.rules g.W.OuterWorld.plays head next l.world l.delivered)
      (play_lines g.W.OuterWorld.rules head l.most (l.script.first + l.place) (drop l.place (mixed l.asides l.script.lines)))
      (play_lines g.W.OuterWorld.rules head l.most l.script.first (mixed l.asides l.script.lines) moment);
  keeps : g.W.OuterWorld.goes_on Stepped.Done l.fn.world l.world;
}
