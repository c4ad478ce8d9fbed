use Rattle.std.proofs.Common.{◌∙◌, ap, map, sym}
use Rattle.nq_names.proofs.Reaching.{reached-over}
use Rattle.nq_name_server.specs.Around.{datagram_of}
use Rattle.nq_names.specs.Playing.{NamesOver}
use Rattle.nq_name_server.specs.Outer.{Outside}
use Rattle.nq_names.proofs.world.NameWorld.packets.Goals as goal

pub returns : goal.returns
returns g c = λ head events told ready plays.
    c.packets.ensures ∙ ap (λ (w : NamesOver _). map datagram_of w.around.sent) c.self.view_is
    ∙ sym (ap (λ (o : Outside). map datagram_of o.sent) (reached-over head events c.args.self.now told ready plays.reaches))
