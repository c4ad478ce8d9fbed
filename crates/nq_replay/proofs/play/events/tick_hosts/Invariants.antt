use Rattle.std.proofs.Common.{◌-◌}
use Rattle.nq_model.specs.protocol.World.{Head}
use Rattle.nq_replay.proofs.AsidesOnward.{IsOn}
use Rattle.nq_replay.specs.RulesGoing.{IsAt}
use Rattle.nq_replay.specs.Rules.{play_ticks}
use Rattle.nq_world.specs.declared.stepped.Stepped.{Stepped}
use Rattle.nq_replay.proofs.play.events.tick_hosts.Given as goal

abbrev pub invariant-loop-host : goal.invariant-loop-host
invariant-loop-host g l = record {
  on : (head : Head) (moment : g.W.OuterWorld.Moment) → IsAt g.W.OuterWorld.rules g.W.OuterWorld.plays head moment l.fn.world l.fn.delivered
      → IsOn (λ next. IsAt g.W.OuterWorld.rules g.W.OuterWorld.plays head next l.world l.delivered)
      (play_ticks g.W.OuterWorld.rules head l.host (l.hosts - l.host))
      (play_ticks g.W.OuterWorld.rules head 0 l.hosts moment);
  keeps : g.W.OuterWorld.goes_on Stepped.Done l.fn.world l.world;
}
