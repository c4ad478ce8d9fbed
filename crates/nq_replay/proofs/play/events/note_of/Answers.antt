use Rattle.std.proofs.Common.{length, subst, sym, ◌∙◌}
use Rattle.nq_replay.proofs.RulesSteps.{marks-none, marks-some}
use Rattle.nq_replay.specs.RulesGoing.{IsFlagged}
use Rattle.nq_replay.proofs.play.events.note_of.Goals as goal

pub returns-in-Some : goal.returns-in-Some
returns-in-Some g c = λ flag moment marks.
    let rules = g.W.OuterWorld.rules in
    let is = sym c.packet_of.ensures ∙ c.in-Some.is in
    let below = subst (IsFlagged (length c.args.delivered.now)) is flag in
    marks-some rules c.mark.new.self c.args.event.now c.in-Some.packet moment (g.met.W.OuterWorld.one_more moment c.args.event.now) is
    (c.mark.ensures below (rules.scheduled moment) marks)

pub returns-in-None : goal.returns-in-None
returns-in-None g c = λ flag moment marks.
    marks-none g.W.OuterWorld.rules c.args.delivered.now c.args.event.now moment (g.met.W.OuterWorld.one_more moment c.args.event.now)
    (sym c.packet_of.ensures ∙ c.in-None.is) marks
