use Rattle.std.proofs.Common.{◌≡◌, ◌≤◌, length, subst}
use Rattle.nq_replay.proofs.RulesSteps.{has-flag, not-taken, taken}
use Rattle.nq_replay.specs.Rules.{packet_of}
use Rattle.nq_replay.proofs.play.events.take_event.Goals as goal

pub returns-in-Done-clause-goes : goal.returns-in-Done-clause-goes
returns-in-Done-clause-goes g c = λ head moment at.
    let rules = g.W.OuterWorld.rules in
    let steps = c.in-Done.ensures.steps head moment (c.sent.ensures.same head moment at.playing) in
    let many : c.in-Ok.sent ≡ rules.sent head moment = c.in-Ok.ensures.packets head moment at.playing in
    let room : rules.sent head moment ≤ length c.reach.new.self = subst (λ n. n ≤ length c.reach.new.self) many c.in-Ok-reach.ensures.reached in
    taken rules g.W.OuterWorld.plays head moment c.args.event.now c.step.new.self c.note_of.new.delivered steps.0 steps.1
    (c.note_of.ensures (has-flag (packet_of (rules.in_schedule c.args.event.now)) (rules.sent head moment) (length c.reach.new.self)
    (λ packet is. g.met.W.OuterWorld.was_sent head moment c.args.event.now packet is steps.0) room) moment
    (c.reach.ensures.same (rules.scheduled moment) at.marks))

pub returns-in_default-step : goal.returns-in_default-step
returns-in_default-step g c = record {
  goes = λ head moment at. not-taken g.W.OuterWorld.rules g.W.OuterWorld.plays head moment c.args.event.now c.step.result c.step.new.self _
      (c.step.ensures.steps head moment (c.sent.ensures.same head moment at.playing)) c.in_default-step.not-Done;
  keeps = g.met.W.OuterWorld.goes_further c.step.result c.args.world.now c.sent.new.self c.step.new.self c.sent.ensures.keeps c.step.ensures.keeps;
}
