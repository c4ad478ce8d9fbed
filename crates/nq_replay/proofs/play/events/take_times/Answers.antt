use Rattle.std.proofs.Common.{◌+◌, ◌-◌}
use Rattle.nq_replay.proofs.AsidesOnward.{goes-on, repeat-step, stops-here}
use Rattle.nq_replay.specs.AsidesPlaying.{repeated}
use Rattle.nq_replay.specs.Rules.{play_event}
use Rattle.nq_world.specs.declared.stepped.Stepped.{Stepped}
use Rattle.nq_replay.proofs.play.events.take_times.Goals as goal

pub returns-in_default : goal.returns-in_default
returns-in_default g c = record {
  goes = λ head moment at.
      let on = c.loop-turn.invariant.on head moment at in
      stops-here (play_event g.W.OuterWorld.rules head c.args.event.now on.reached)
      (repeated (c.args.times - (c.loop-turn.turn + 1)) (play_event g.W.OuterWorld.rules head c.args.event.now))
      c.take_event.result _ _ _ (c.take_event.ensures.goes head on.reached on.here) c.in_default.not-Done (repeat-step c.args.times c.loop-turn.turn
      (play_event g.W.OuterWorld.rules head c.args.event.now) on.reached _ c.loop-turn-test.true on.same);
  keeps = g.met.W.OuterWorld.goes_further c.take_event.result c.args.world.now c.loop-turn.world c.take_event.new.world c.loop-turn.invariant.keeps c.take_event.ensures.keeps;
}

pub loop-turn-preserved : goal.loop-turn-preserved
loop-turn-preserved g c = record {
  on = λ head moment at.
      let on = c.loop-turn.invariant.on head moment at in
      goes-on (play_event g.W.OuterWorld.rules head c.args.event.now on.reached)
      (repeated (c.args.times - (c.loop-turn.turn + 1)) (play_event g.W.OuterWorld.rules head c.args.event.now)) _ _
      (c.in-Done.ensures.goes head on.reached on.here) (repeat-step c.args.times c.loop-turn.turn
      (play_event g.W.OuterWorld.rules head c.args.event.now) on.reached _
      c.loop-turn-test.true on.same);
  keeps = g.met.W.OuterWorld.goes_further Stepped.Done c.args.world.now c.loop-turn.world c.take_event.new.world c.loop-turn.invariant.keeps c.in-Done.ensures.keeps;
}

pub take_event-requires : goal.take_event-requires
take_event-requires g c = g.met.W.OuterWorld.comes_later c.args.world.now c.loop-turn.world c.args.event.now c.loop-turn.invariant.keeps c.requires
