use Rattle.nq_replay.proofs.RulesSteps.{steps-go}
use Rattle.nq_replay.specs.Rules.{play_event}
use Rattle.nq_staged.proofs.Steps.{steps-by}
use Rattle.nq_staged.specs.Playing.{staged_rules}
use Rattle.nq_staged.specs.Worlds.{PlaysOutside}
use Rattle.nq_stage.specs.declared.run.event.StagedEvent.{StagedEvent}
use Rattle.nq_staged.proofs.playing.StagedWorldOuterWorld.act.Goals as goal

pub returns : goal.returns
unfolding play_event
returns g c = record {
  goes = λ head events plays.
      steps-go staged_rules (λ h es w. PlaysOutside h es w (g.K.Keeper.content w.inner.server.keeper)) head events
      (StagedEvent.Stage c.args.offer.host) c.step.result c.step.new.self
      (steps-by g.K.Keeper.content head events (StagedEvent.Stage c.args.offer.host) c.step.result c.step.new.self _ (c.step.ensures.steps head events plays));
  keeps = record { counts = c.step.ensures.faults; keeper = c.step.ensures.follows; settings = c.step.ensures.settings };
}
