use Rattle.std.proofs.Common.{[], subst, sym}
use Rattle.nq_staged.specs.Worlds.{PlaysOutside}
use Rattle.nq_replay.specs.Playing.{beginning}
use Rattle.nq_world.specs.Playing.{WorldOver}
use Rattle.nq_staged.proofs.running.begin_staged.Goals as goal

pub returns-in-Ok-clause-plays : goal.returns-in-Ok-clause-plays
returns-in-Ok-clause-plays g c =
    subst (λ (i : WorldOver _). PlaysOutside (beginning c.args.head.now) [] c.in-Ok.world (g.L.Keeper.content i.server.keeper)) (sym c.in-Ok.ensures.inner)
    (c.in-Ok.ensures.plays (beginning c.args.head.now) _ c.in_ok-world.ensures.plays)
