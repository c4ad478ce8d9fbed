use Rattle.std.proofs.Common.{◌≡◌, ◌∙◌, ap, sym}
use Rattle.std.specs.Prelude.{Some, slice_get}
use Rattle.nq_names.proofs.Leading.{delivered-leads}
use Rattle.nq_names.specs.Playing.{NamesOver}
use Rattle.nq_names.proofs.world.NameWorld.deliver.Goals as goal

pub returns-in-Ok-clause-leads : goal.returns-in-Ok-clause-leads
returns-in-Ok-clause-leads g c = λ head events ready r left.
    let at : slice_get c.args.self.now.around.sent c.args.number ≡ Some c.in-Ok.packet = ap (λ (w : NamesOver _). slice_get w.around.sent
    c.args.number) (sym c.self.view_is) ∙ c.in-Ok.ensures in
    delivered-leads head events c.args.number c.in-Ok.packet _ c.take_in.result c.args.self.now c.take_in.new.self _ _ ready r at (let view =
    c.packet.view_is in cc) left (c.take_in.ensures.takes head)
