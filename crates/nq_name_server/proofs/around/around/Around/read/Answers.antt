use Rattle.std.proofs.Common.{◌∙◌, ◌++◌, ap, sym}
use Rattle.std.specs.Prelude.{slice_get}
use Rattle.nq_name_server.proofs.Together.{at_travelling, read-is}
use Rattle.nq_name_server.specs.Around.{AroundOver}
use Rattle.nq_name_server.proofs.around.around.Around.read.Goals as goal

pub returns : goal.returns
returns c =
    read-is c.args.self.now.sent c.args.number c.in-Some-get.packet _ _ _ _
    (ap (λ (a : AroundOver). slice_get a.sent c.args.number) (sym c.self.view_is) ∙ at_travelling c.self.inside.packets.datagrams
    c.self.inside.inner.items c.args.number c.in-Some-get.packet _ c.in-Some-get.ensures.some c.in-Some.ensures)
    c.sender.ensures c.to.ensures (c.in_ok-bytes_into.ensures.ok ∙ ap (λ l. l ++ c.in-Some-get.packet.bytes) c.new-bytes.ensures.items)
