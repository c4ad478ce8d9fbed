use Rattle.std.proofs.Common.{◌+◌, ◌-◌}
use Rattle.nq_base.specs.declared.Event.{Event}
use Rattle.nq_replay.proofs.AsidesOnward.{done-here, goes-on, stops-here}
use Rattle.nq_replay.proofs.RulesOnward.{flow-none, flow-some}
use Rattle.nq_replay.proofs.RulesSteps.{at-sent, next-is}
use Rattle.nq_replay.specs.Rules.{play_plainly, play_flow}
use Rattle.nq_world.specs.declared.stepped.Limit.{Limit}
use Rattle.nq_world.specs.declared.stepped.Stepped.{Stepped}
use Rattle.nq_replay.proofs.play.events.flow.Goals as goal

pub returns-in_default : goal.returns-in_default
returns-in_default g c = record {
  goes = λ head moment at. tt;
  keeps = g.met.W.OuterWorld.goes_further Stepped.Memory c.args.world.now c.loop-turn.world c.sent.new.self c.loop-turn.invariant.keeps
      (g.met.W.OuterWorld.goes_still Stepped.Memory c.loop-turn.world c.sent.new.self tt c.sent.ensures.keeps);
}

pub returns-in-None-clause-goes : goal.returns-in-None-clause-goes
returns-in-None-clause-goes g c = λ head moment at.
    let on = c.loop-turn.invariant.on head moment at in
    let next = next-is g.W.OuterWorld.rules head on.reached c.loop-turn.delivered c.in-Ok.sent c.next.result on.here.marks (c.in-Ok.ensures.packets head
    on.reached on.here.playing) c.next.ensures.next in
    done-here _ on.reached _ (at-sent g.W.OuterWorld.rules g.W.OuterWorld.plays head on.reached c.loop-turn.world c.sent.new.self c.loop-turn.delivered
    c.next.new.self on.here (c.sent.ensures.same head on.reached) c.next.ensures.same)
    (flow-none g.W.OuterWorld.rules head c.args.most c.loop-turn.turn on.reached _ c.next.result c.loop-turn-test.true on.same next c.in-None.is)

pub returns-in-None-clause-keeps : goal.returns-in-None-clause-keeps
returns-in-None-clause-keeps g c = g.met.W.OuterWorld.goes_further Stepped.Done c.args.world.now c.loop-turn.world c.sent.new.self
    c.loop-turn.invariant.keeps c.sent.ensures.keeps

pub returns-in_default-take_plainly : goal.returns-in_default-take_plainly
returns-in_default-take_plainly g c = record {
  goes = λ head moment at.
      let on = c.loop-turn.invariant.on head moment at in
      let next = next-is g.W.OuterWorld.rules head on.reached c.loop-turn.delivered c.in-Ok.sent c.next.result on.here.marks (c.in-Ok.ensures.packets head
      on.reached on.here.playing) c.next.ensures.next in
      stops-here (play_plainly g.W.OuterWorld.rules head (Event.Deliver c.in-Some.packet) on.reached)
      (λ next. play_flow g.W.OuterWorld.rules head (c.args.most - (c.loop-turn.turn + 1)) next) c.take_plainly.result _ _ _
      (c.take_plainly.ensures.goes head on.reached
      (at-sent g.W.OuterWorld.rules g.W.OuterWorld.plays head on.reached c.loop-turn.world c.sent.new.self c.loop-turn.delivered c.next.new.self on.here
      (c.sent.ensures.same head on.reached) c.next.ensures.same)) c.in_default-take_plainly.not-Done
      (flow-some g.W.OuterWorld.rules head c.args.most c.loop-turn.turn c.in-Some.packet on.reached _ c.next.result c.loop-turn-test.true on.same next
      c.in-Some.is);
  keeps = g.met.W.OuterWorld.goes_further c.take_plainly.result c.args.world.now c.loop-turn.world c.take_plainly.new.world c.loop-turn.invariant.keeps
      (g.met.W.OuterWorld.goes_further c.take_plainly.result c.loop-turn.world c.sent.new.self c.take_plainly.new.world c.sent.ensures.keeps
      c.take_plainly.ensures.keeps);
}

pub loop-turn-preserved : goal.loop-turn-preserved
loop-turn-preserved g c = record {
  on = λ head moment at.
      let on = c.loop-turn.invariant.on head moment at in
      let next = next-is g.W.OuterWorld.rules head on.reached c.loop-turn.delivered c.in-Ok.sent c.next.result on.here.marks (c.in-Ok.ensures.packets head
      on.reached on.here.playing) c.next.ensures.next in
      goes-on (play_plainly g.W.OuterWorld.rules head (Event.Deliver c.in-Some.packet) on.reached)
      (λ next. play_flow g.W.OuterWorld.rules head (c.args.most - (c.loop-turn.turn + 1)) next) _ _ (c.in-Done.ensures.goes head on.reached
      (at-sent g.W.OuterWorld.rules g.W.OuterWorld.plays head on.reached c.loop-turn.world c.sent.new.self c.loop-turn.delivered c.next.new.self on.here
      (c.sent.ensures.same head on.reached) c.next.ensures.same))
      (flow-some g.W.OuterWorld.rules head c.args.most c.loop-turn.turn c.in-Some.packet on.reached _ c.next.result c.loop-turn-test.true on.same next
      c.in-Some.is);
  keeps = g.met.W.OuterWorld.goes_further Stepped.Done c.args.world.now c.loop-turn.world c.take_plainly.new.world c.loop-turn.invariant.keeps
      (g.met.W.OuterWorld.goes_further Stepped.Done c.loop-turn.world c.sent.new.self c.take_plainly.new.world c.sent.ensures.keeps
      c.in-Done.ensures.keeps);
}

pub returns-clause-keeps : goal.returns-clause-keeps
returns-clause-keeps g c = g.met.W.OuterWorld.goes_still (Stepped.Limit Limit.Events) c.args.world.now c.loop-turn.world tt c.loop-turn.invariant.keeps
