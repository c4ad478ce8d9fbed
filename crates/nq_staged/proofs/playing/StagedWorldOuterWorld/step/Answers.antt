use Rattle.nq_staged.proofs.Steps.{steps-by}
use Rattle.nq_staged.proofs.playing.StagedWorldOuterWorld.step.Goals as goal

pub returns : goal.returns
returns g c = record {
  steps = λ head events plays. steps-by g.K.Keeper.content head events c.args.event.now c.step.result c.step.new.self _
      (c.step.ensures.steps head events plays);
  keeps = record { counts = c.step.ensures.faults; keeper = c.step.ensures.follows; settings = c.step.ensures.settings };
}
