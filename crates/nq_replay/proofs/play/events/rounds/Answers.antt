use Rattle.std.proofs.Common.{◌+◌, ◌-◌, arith}
use Rattle.nq_replay.proofs.AsidesOnward.{goes-on, repeat-step, stops-here}
use Rattle.nq_replay.specs.AsidesPlaying.{repeated}
use Rattle.nq_replay.specs.Rules.{play_round}
use Rattle.nq_world.specs.declared.stepped.Stepped.{Stepped}
use Rattle.nq_replay.proofs.play.events.rounds.Goals as goal

pub returns-in_default : goal.returns-in_default
returns-in_default g c = record {
  goes = λ head moment hosts at.
      let on = c.loop-turn.invariant.on head moment hosts at in
      stops-here (play_round g.W.OuterWorld.rules head on.reached)
      (repeated (c.args.times - (c.loop-turn.turn + 1)) (play_round g.W.OuterWorld.rules head)) c.round.result _ _ _
      (c.round.ensures.goes head on.reached hosts on.here) c.in_default.not-Done
      (repeat-step c.args.times c.loop-turn.turn (play_round g.W.OuterWorld.rules head)
      on.reached _ c.loop-turn-test.true on.same);
  keeps = g.met.W.OuterWorld.goes_further c.round.result c.args.world.now c.loop-turn.world c.round.new.world c.loop-turn.invariant.keeps c.round.ensures.keeps;
}

pub loop-turn-preserved : goal.loop-turn-preserved
loop-turn-preserved g c = record {
  on = λ head moment hosts at.
      let on = c.loop-turn.invariant.on head moment hosts at in
      goes-on (play_round g.W.OuterWorld.rules head on.reached)
      (repeated (c.args.times - (c.loop-turn.turn + 1)) (play_round g.W.OuterWorld.rules head)) _ _ (c.in-Done.ensures.goes head
      on.reached hosts on.here) (repeat-step c.args.times c.loop-turn.turn (play_round g.W.OuterWorld.rules head) on.reached _ c.loop-turn-test.true on.same);
  keeps = g.met.W.OuterWorld.goes_further Stepped.Done c.args.world.now c.loop-turn.world c.round.new.world c.loop-turn.invariant.keeps c.in-Done.ensures.keeps;
}

pub round-requires : goal.round-requires
round-requires g c =
    let same = (g.met.W.OuterWorld.keeps_hosts c.args.world.now c.loop-turn.world c.loop-turn.invariant.keeps).0 in
    let few = c.requires in
    omega arith
