use Rattle.std.proofs.Common.{◌∙◌, ap, map, sym}
use Rattle.nq_staged.proofs.Reaching.{reached-over}
use Rattle.nq_staged.specs.Around.{datagram_of}
use Rattle.nq_staged.specs.Worlds.{StagedOver}
use Rattle.nq_stage.specs.Outer.{Outside}
use Rattle.nq_staged.proofs.commit.world.StagedWorld.packets.Goals as goal

pub returns : goal.returns
returns g c = λ head events told ready plays.
    c.packets.ensures ∙ ap (λ (w : StagedOver _). map datagram_of w.around.sent) c.self.view_is
    ∙ sym (ap (λ (o : Outside). map datagram_of o.sent) (reached-over head events c.args.self.now told ready plays.reaches))
