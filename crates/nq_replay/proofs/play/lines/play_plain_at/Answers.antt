use Rattle.std.proofs.Common.{◌∙◌, sym}
use Rattle.std.proofs.lemmas.Option.{same_Some}
use Rattle.nq_base.specs.declared.Event.{Event}
use Rattle.nq_replay.proofs.AsidesOnward.{goes-same}
use Rattle.nq_replay.proofs.RulesOnward.{played-once}
use Rattle.nq_replay.specs.Rules.{play_plain, play_plainly}
use Rattle.nq_replay.proofs.play.lines.play_plain_at.Goals as goal

pub returns-in-Some-clause-goes : goal.returns-in-Some-clause-goes
returns-in-Some-clause-goes g c = λ line here head moment hosts at.
    let rules = g.W.OuterWorld.rules in
    let event = Event.Deliver c.in-Some.packet in
    goes-same c.take_plainly.result (play_plainly rules head event moment) (play_plain rules head c.args.most line moment) _
    (played-once rules head c.args.most line event moment (same_Some line _ (sym here ∙ c.in-Some.ensures.delivered)))
    (c.take_plainly.ensures.goes head moment at)
