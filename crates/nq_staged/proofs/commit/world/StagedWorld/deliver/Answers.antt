use Rattle.std.proofs.Common.{ap, refl}
use Rattle.nq_staged.proofs.Leading.{delivered-beside, delivered-inner, delivered-memory, travels-there}
use Rattle.nq_staged.specs.Worlds.{StagedOver}
use Rattle.nq_staged.proofs.commit.world.StagedWorld.deliver.Goals as goal

pub returns-in-Beside-clause-leads : goal.returns-in-Beside-clause-leads
returns-in-Beside-clause-leads g c = λ head events ready r left.
    let ready' = rw (← c.self.view_is) at ready in
    let r' = rw (← c.self.view_is) at r in
    delivered-beside head events c.args.number _ _ _ ready' r' refl refl (travels-there head events c.args.number _ _ ready' r' left)
    (rw c.in-Beside.is at c.take_in.ensures) left

pub returns-in-Inner-clause-leads : goal.returns-in-Inner-clause-leads
returns-in-Inner-clause-leads g c = λ head events ready r left.
    let ready' = rw (← c.self.view_is) at ready in
    let r' = rw (← c.self.view_is) at r in
    rw (← c.self.view_is) (delivered-inner head events c.args.number c.in-Inner.number c.in-Inner.commit c.run.result _ _ c.run.new.self _ _ ready' r'
    (travels-there head events c.args.number _ _ ready' r' left) (rw c.in-Inner.is at c.take_in.ensures) refl left (c.run.ensures.ran head))

pub returns-in-Memory-clause-leads : goal.returns-in-Memory-clause-leads
returns-in-Memory-clause-leads g c = λ head events ready r left.
    let ready' = rw (← c.self.view_is) at ready in
    let r' = rw (← c.self.view_is) at r in (
      delivered-memory head events c.args.number _ _ _ r' refl refl (travels-there head events c.args.number _ _ ready' r' left)
          (rw c.in-Memory.is at c.take_in.ensures),
      ap (λ (w : StagedOver _). g.K.Keeper.content w.inner.server.keeper) c.self.view_is,
    )
