use Rattle.std.proofs.Common.{◌≡◌, refl}
use Rattle.nq_base.specs.declared.Event.{Event}
use Rattle.nq_replay.proofs.AsidesOnward.{goes-on, goes-same, stops-here}
use Rattle.nq_replay.specs.AsidesPlaying.{and_then}
use Rattle.nq_replay.specs.Rules.{play_plainly, play_round, play_ticks}
use Rattle.nq_replay.proofs.play.events.round.Goals as goal

pub returns-in-Done-clause-goes : goal.returns-in-Done-clause-goes
unfolding play_round
returns-in-Done-clause-goes g c = λ head moment hosts at.
    let same : and_then (play_ticks g.W.OuterWorld.rules head 0 c.args.hosts moment)
    (play_plainly g.W.OuterWorld.rules head Event.ServerTick) ≡ play_round g.W.OuterWorld.rules head moment =
    rw (← hosts) refl in
    let on = goes-on (play_ticks g.W.OuterWorld.rules head 0 c.args.hosts moment) (play_plainly g.W.OuterWorld.rules head Event.ServerTick) _
    (play_round g.W.OuterWorld.rules head moment)
    (c.in-Done.ensures.goes head moment at) same in
    goes-same c.take_plainly.result (play_plainly g.W.OuterWorld.rules head Event.ServerTick on.reached)
    (play_round g.W.OuterWorld.rules head moment) _ on.same
    (c.take_plainly.ensures.goes head on.reached on.here)

pub returns-in-Done-clause-keeps : goal.returns-in-Done-clause-keeps
returns-in-Done-clause-keeps g c =
    g.met.W.OuterWorld.goes_further c.take_plainly.result c.args.world.now c.tick_hosts.new.world c.take_plainly.new.world c.in-Done.ensures.keeps c.take_plainly.ensures.keeps

pub returns-in_default : goal.returns-in_default
unfolding play_round
returns-in_default g c = record {
  goes = λ head moment hosts at.
      let same : and_then (play_ticks g.W.OuterWorld.rules head 0 c.args.hosts moment)
      (play_plainly g.W.OuterWorld.rules head Event.ServerTick) ≡ play_round g.W.OuterWorld.rules head moment =
      rw (← hosts) refl in
      stops-here (play_ticks g.W.OuterWorld.rules head 0 c.args.hosts moment)
      (play_plainly g.W.OuterWorld.rules head Event.ServerTick) c.tick_hosts.result _ _
      (play_round g.W.OuterWorld.rules head moment) (c.tick_hosts.ensures.goes head moment at) c.in_default.not-Done same;
  keeps = c.tick_hosts.ensures.keeps;
}
