use Rattle.std.proofs.Common.{◌≡◌, subst}
use Rattle.nq_keeper.specs.Bounds.{told-kept}
use Rattle.nq_keeper.specs.StoredKeeper.{told_of}
use Rattle.nq_model.specs.protocol.Change.{kept_as}
use Rattle.nq_keeper.proofs.list_keeper.list_keeper_tells_all.Goals as goal

pub returns : goal.returns
returns c =
    subst (λ k. told_of k.kept ≡ k.kept) c.keeper.view_is
    (told-kept (kept_as c.keeper.inside.files c.keeper.inside.hosts.items c.keeper.inside.heads) c.keeper.invariant)
