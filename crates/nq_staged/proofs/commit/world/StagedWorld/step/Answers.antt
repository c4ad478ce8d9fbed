use Rattle.std.proofs.Common.{ap, subst, sym}
use Rattle.nq_staged.specs.Worlds.{PlaysOutside}
use Rattle.nq_world.specs.Playing.{WorldOver}
use Rattle.nq_staged.proofs.commit.world.StagedWorld.step.Goals as goal

pub returns-in-Err-Memory-clause-steps : goal.returns-in-Err-Memory-clause-steps
returns-in-Err-Memory-clause-steps g c = λ head events plays. (
  subst (λ (i : WorldOver _). PlaysOutside head events c.settle.new.self (g.K.Keeper.content i.server.keeper)) (sym c.settle.ensures.inner)
      (c.settle.ensures.same head events _ plays).0,
  ap (λ (i : WorldOver _). g.K.Keeper.content i.server.keeper) c.settle.ensures.inner,
)
