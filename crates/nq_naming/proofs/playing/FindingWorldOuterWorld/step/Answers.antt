use Rattle.nq_naming.proofs.Moments.{more-moment, steps-by}
use Rattle.nq_naming.specs.contracts.playing.FindingWorldOuterWorld.TheImpl.{ghosts}
use Rattle.nq_naming.proofs.playing.FindingWorldOuterWorld.step.Goals as goal

pub returns : goal.returns
returns g c = record {
  steps = λ head m at.
      steps-by ((ghosts g.row.K g.K.Keeper g.K.Keeper-dict).plays) head m c.args.event.now c.step.result _ c.step.new.self _ _
      (λ plays. more-moment head m c.args.event.now c.args.self.now.names c.step.new.self _ _ c.args.self.now.found.items at plays)
      (c.step.ensures.steps head m.events at.plays);
  keeps = record { counts = c.step.ensures.faults; keeper = c.step.ensures.follows; settings = c.step.ensures.settings };
}
