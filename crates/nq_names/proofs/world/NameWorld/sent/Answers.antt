use Rattle.std.proofs.Common.{◌∙◌, ap, length, sym}
use Rattle.nq_names.proofs.Reaching.{reached-over}
use Rattle.nq_names.specs.Playing.{NamesOver}
use Rattle.nq_name_server.specs.Outer.{Outside}
use Rattle.nq_names.proofs.world.NameWorld.sent.Goals as goal

pub returns-clause-packets : goal.returns-clause-packets
returns-clause-packets g c = λ head events told plays.
    let on = c.in_ok-settle.ensures.same head events told plays in
    c.sent.ensures ∙ ap (λ (w : NamesOver _). length w.around.sent) c.self.view_is
    ∙ sym (ap (λ (o : Outside). length o.sent) (reached-over head events c.settle.new.self told on.1 on.0.reaches))

pub returns-clause-same : goal.returns-clause-same
returns-clause-same g c = λ head events told plays. (c.settle.ensures.same head events told plays).0

pub returns-in_err-settle-clause-same : goal.returns-in_err-settle-clause-same
returns-in_err-settle-clause-same g c = λ head events told plays. (c.settle.ensures.same head events told plays).0

pub returns-clause-ready : goal.returns-clause-ready
returns-clause-ready g c = λ head events told plays. (c.in_ok-settle.ensures.same head events told plays).1
