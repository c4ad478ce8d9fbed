use Rattle.std.proofs.Common.{sym, subst}
use Rattle.std.specs.Option.{ForSome}
use Rattle.nq_keeper.specs.Keeping.{LeavesTwo}
use Rattle.nq_model.specs.protocol.Change.{IsChangeWithin}
use Rattle.nq_service.proofs.recent.keeper.RecentKeeperKeeper.commit.Goals as goal

pub commit-requires-clause-within : goal.commit-requires-clause-within
commit-requires-clause-within g c =
    subst (λ (keeper : g.row.K.Denot). ForSome (g.K.Keeper.content keeper) (λ kept. IsChangeWithin kept c.args.change)) (sym c.self.view_is)
    c.requires.within

pub returns-clause-leaves : goal.returns-clause-leaves
returns-clause-leaves g c =
    subst (λ (keeper : g.row.K.Denot). LeavesTwo c.args.change (g.K.Keeper.content keeper) (g.K.Keeper.leaves keeper c.commit.new.self)) c.self.view_is
    c.commit.ensures.leaves
