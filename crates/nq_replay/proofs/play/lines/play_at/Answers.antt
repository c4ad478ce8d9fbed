use Rattle.std.proofs.Common.{◌∙◌, ap, sym}
use Rattle.nq_replay.proofs.AsidesOnward.{goes-same}
use Rattle.nq_replay.proofs.Mixing.{aside-holds, line-beside, line-plain, line-there}
use Rattle.nq_replay.proofs.RulesSteps.{acts-at}
use Rattle.nq_replay.specs.Rules.{play_line}
use Rattle.nq_replay.proofs.play.lines.play_at.Goals as goal

pub act-requires : goal.act-requires
act-requires g c =
    aside-holds (g.W.OuterWorld.can_act c.args.world.now) c.args.asides.now c.args.place c.in-Some.aside c.requires.asides
    (sym c.aside_at.ensures ∙ c.in-Some.is)

pub returns-in-Some-clause-goes : goal.returns-in-Some-clause-goes
returns-in-Some-clause-goes g c = λ line here head moment hosts at.
    let lines = c.args.script.now.lines in
    let there = line-there lines c.args.place c.requires.below in
    goes-same c.act.result _ _ _
    (ap (λ l. play_line g.W.OuterWorld.rules head c.args.most l moment) (line-beside c.args.asides.now lines c.args.place c.in-Some.aside there.0 line there.1
    (sym c.aside_at.ensures ∙ c.in-Some.is) here))
    (acts-at g.W.OuterWorld.rules g.W.OuterWorld.plays head c.in-Some.aside moment c.act.result c.act.new.self c.args.delivered.now
    (λ next is. g.met.W.OuterWorld.acts_beside head c.in-Some.aside moment next is) at.marks (c.act.ensures.goes head moment at.playing))

pub returns-in-None-clause-goes : goal.returns-in-None-clause-goes
returns-in-None-clause-goes g c = λ line here head moment hosts at.
    let lines = c.args.script.now.lines in
    let there = line-there lines c.args.place c.requires.below in
    goes-same c.play_plain_at.result _ _ _
    (ap (λ l. play_line g.W.OuterWorld.rules head c.args.most l moment) (line-plain c.args.asides.now lines c.args.place there.0 line there.1
    (sym c.aside_at.ensures ∙ c.in-None.is) here)) (c.play_plain_at.ensures.goes there.0 there.1 head moment hosts at)
