use Rattle.std.proofs.Common.{◌∙◌, ap}
use Rattle.nq_staged.proofs.Reaching.{reached-counts}
use Rattle.nq_staged.specs.Worlds.{StagedOver}
use Rattle.nq_staged.proofs.commit.world.StagedWorld.counts.Goals as goal

pub returns : goal.returns
returns g c = λ head events told plays.
    ap (λ i. i.around.counts) c.self-inside.view_is ∙ ap (λ (w : StagedOver _). w.around.counts) c.self.view_is ∙ reached-counts head events
    c.args.self.now told plays.reaches
