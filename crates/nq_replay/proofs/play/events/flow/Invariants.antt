use Rattle.std.proofs.Common.{◌-◌}
use Rattle.nq_model.specs.protocol.World.{Head}
use Rattle.nq_replay.proofs.AsidesOnward.{IsOn}
use Rattle.nq_replay.specs.RulesGoing.{IsAt}
use Rattle.nq_replay.specs.Rules.{play_flow}
use Rattle.nq_world.specs.declared.stepped.Stepped.{Stepped}
use Rattle.nq_replay.proofs.play.events.flow.Given as goal

abbrev pub invariant-loop-turn : goal.invariant-loop-turn
invariant-loop-turn g l = record {
  on : (head : Head) (moment : g.W.OuterWorld.Moment) → IsAt g.W.OuterWorld.rules g.W.OuterWorld.plays head moment l.fn.world l.fn.delivered
      → IsOn (λ next. IsAt g.W.OuterWorld.rules g.W.OuterWorld.plays head next l.world l.delivered) (play_flow g.W.OuterWorld.rules head (l.most - l.turn))
      (play_flow g.W.OuterWorld.rules head l.most moment);
  keeps : g.W.OuterWorld.goes_on Stepped.Done l.fn.world l.world;
}
