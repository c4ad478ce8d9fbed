use Rattle.std.proofs.Common.{◌∙◌, ap, reverse, sym}
use Rattle.nq_names.proofs.Reaching.{reached-ran}
use Rattle.nq_names.specs.Playing.{NamesOver}
use Rattle.nq_names.proofs.world.NameWorld.ran.Goals as goal

pub returns : goal.returns
returns g c = λ head events told plays. ap (λ (w : NamesOver _). reverse w.ran) c.self.view_is ∙ sym (reached-ran head events c.args.self.now told
    plays.reaches)
