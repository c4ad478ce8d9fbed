use Rattle.std.proofs.Common.{◌∙◌, ap, map, reverse, sym}
use Rattle.nq_base.specs.Plain.{plain}
use Rattle.nq_staged.proofs.Reaching.{reached-inner}
use Rattle.nq_staged.specs.Worlds.{StagedOver}
use Rattle.nq_model.specs.protocol.World.{World}
use Rattle.nq_staged.proofs.commit.world.StagedWorld.journal.Goals as goal

pub returns : goal.returns
returns g c = λ head events told plays.
    ap (map plain) (c.journal.ensures ∙ ap (λ (w : StagedOver _). w.inner.entries) c.self.view_is)
    ∙ plays.reaches.inner.shown.shows.entries
    ∙ ap (λ (v : World). reverse v.journal) (sym (ap (λ i. i.0) (reached-inner head events c.args.self.now told plays.reaches)))
