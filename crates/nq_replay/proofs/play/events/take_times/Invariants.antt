use Rattle.std.proofs.Common.{◌-◌}
use Rattle.nq_model.specs.protocol.World.{Head}
use Rattle.nq_replay.proofs.AsidesOnward.{IsOn}
use Rattle.nq_replay.specs.RulesGoing.{IsAt}
use Rattle.nq_replay.specs.AsidesPlaying.{repeated}
use Rattle.nq_replay.specs.Rules.{play_event}
use Rattle.nq_world.specs.declared.stepped.Stepped.{Stepped}
use Rattle.nq_replay.proofs.play.events.take_times.Given as goal

abbrev pub invariant-loop-turn : goal.invariant-loop-turn
invariant-loop-turn g l = record {
  on : (head : Head) (moment : g.W.OuterWorld.Moment) → IsAt g.W.OuterWorld.rules g.W.OuterWorld.plays head moment l.fn.world l.fn.delivered
      → IsOn (λ next. IsAt g.W.OuterWorld.rules g.W.OuterWorld.plays head next l.world l.delivered) (repeated (l.times - l.turn)
      (play_event g.W.OuterWorld.rules head l.event)) (repeated l.times (play_event g.W.OuterWorld.rules head l.event) moment);
  keeps : g.W.OuterWorld.goes_on Stepped.Done l.fn.world l.world;
}
