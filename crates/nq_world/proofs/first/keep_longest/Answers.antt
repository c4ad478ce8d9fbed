use Rattle.std.proofs.Common.{◌≡◌, [], sym, subst}
use Rattle.nq_keeper.specs.Keeping.{told_after}
use Rattle.nq_model.specs.protocol.Change.{Fits, IsChangeWithin}
use Rattle.nq_world.proofs.Firsts.{heads-applied, heads-fit-first, heads-within-first, told-next, commit-told}
use Rattle.nq_world.specs.First.{heads_change, kept_first, told_as}
use Rattle.nq_world.proofs.first.keep_longest.Goals as goal

pub commit-requires-clause-fits : goal.commit-requires-clause-fits
commit-requires-clause-fits g c = λ kept told.
    subst (Fits kept) (sym c.heads_change-change.ensures)
    (subst (λ k. Fits k (heads_change c.args.longest 1)) (sym (c.requires.told kept told)) (heads-fit-first 60 c.args.longest [] 0))

pub commit-requires-clause-within : goal.commit-requires-clause-within
commit-requires-clause-within g c = λ kept told.
    subst (IsChangeWithin kept) (sym c.heads_change-change.ensures)
    (subst (λ k. IsChangeWithin k (heads_change c.args.longest 1)) (sym (c.requires.told kept told)) (heads-within-first 60 c.args.longest
    c.requires.long c.requires.short))

pub returns-clause-told : goal.returns-clause-told
returns-clause-told g c =
    let told = g.K.Keeper.content c.args.keeper.now in
    commit-told c.commit.result c.heads_change-change.result told (g.K.Keeper.content c.commit.new.self) (g.K.Keeper.faults c.args.keeper.now)
    (g.K.Keeper.faults c.commit.new.self) (told_as (kept_first c.args.longest [] 0) told) c.commit.ensures.commits
    (subst (λ change. told_after change told ≡ told_as (kept_first c.args.longest [] 0) told) (sym c.heads_change-change.ensures)
    (told-next told (kept_first 60 [] 0) (kept_first c.args.longest [] 0) (heads_change c.args.longest 1) c.requires.told
    (heads-applied 60 c.args.longest [] 0)))
