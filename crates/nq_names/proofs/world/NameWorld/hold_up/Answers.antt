use Rattle.std.proofs.Common.{◌∙◌, ap, sym}
use Rattle.nq_datagrams.specs.Incoming.{datagram_in}
use Rattle.nq_names.proofs.Taking.{held-up}
use Rattle.nq_name_server.specs.Outside.{changes_as}
use Rattle.nq_world.specs.Playing.{WorldOver}
use Rattle.nq_names.proofs.world.NameWorld.hold_up.Goals as goal

pub returns-in_ok-hold_up_for-in-Some-clause-held : goal.returns-in_ok-hold_up_for-in-Some-clause-held
returns-in_ok-hold_up_for-in-Some-clause-held g c = λ head plays.
    let a = c.in_ok-hold_up_for-in-Some.ensures in
    let kept = c.in_ok-change.ensures in
    held-up head c.in_ok-hold_up_for-in-Some.field-0 c.in-Some.change (λ kept. changes_as kept c.args.host (datagram_in c.args.datagram.now))
    c.args.self.now c.changes.new.self c.hold_up_for.new.self _ _ plays
    (λ k is. sym c.in-Some.is ∙ kept.told k is) a.held kept.reads.0 (ap (λ (i : WorldOver _). g.K.Keeper.content i.server.keeper) a.inner
    ∙ kept.reads.1.0) a.inner a.ran a.count
