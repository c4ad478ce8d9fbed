use Rattle.std.proofs.Common.{◌∙◌, ap, reverse, sym}
use Rattle.nq_staged.proofs.Reaching.{reached-ran}
use Rattle.nq_staged.specs.Worlds.{StagedOver}
use Rattle.nq_staged.proofs.commit.world.StagedWorld.ran.Goals as goal

pub returns : goal.returns
returns g c = λ head events told plays. ap (λ (w : StagedOver _). reverse w.ran) c.self.view_is ∙ sym (reached-ran head events c.args.self.now told
    plays.reaches)
