use Rattle.std.proofs.Common.{◌∙◌, ap, map, reverse, sym}
use Rattle.nq_base.specs.Plain.{plain}
use Rattle.nq_names.proofs.Reaching.{reached-core}
use Rattle.nq_names.specs.Playing.{NamesOver}
use Rattle.nq_model.specs.protocol.World.{World}
use Rattle.nq_names.proofs.world.NameWorld.journal.Goals as goal

pub returns : goal.returns
returns g c = λ head events told plays.
    ap (map plain) (c.journal.ensures ∙ ap (λ (w : NamesOver _). w.inner.entries) c.self.view_is)
    ∙ plays.reaches.inner.shown.shows.entries
    ∙ ap (λ (v : World). reverse v.journal) (sym (ap (λ i. i.0) (reached-core head events c.args.self.now told plays.reaches)))
