use Rattle.std.proofs.Common.{ap, subst, sym}
use Rattle.nq_replay.proofs.AsidesOnward.{goes-same}
use Rattle.nq_replay.specs.Rules.{play_event}
use Rattle.nq_replay.proofs.play.events.take_plainly.Goals as goal

pub take_event-requires : goal.take_event-requires
take_event-requires g c = subst (g.W.OuterWorld.can_come c.args.world.now) (sym c.of_schedule-event.ensures)
    (g.met.W.OuterWorld.comes_plainly c.args.world.now c.args.event c.requires)

pub returns-clause-goes : goal.returns-clause-goes
returns-clause-goes g c = λ head moment at.
    goes-same c.take_event.result _ _ _ (ap (λ e. play_event g.W.OuterWorld.rules head e moment) c.of_schedule-event.ensures) (c.take_event.ensures.goes head moment at)
