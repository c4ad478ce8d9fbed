use Rattle.std.proofs.Common.{sym, ◌∙◌, inl}
use Rattle.nq_model.proofs.FreshFits.{orderly-within}
use Rattle.nq_lease.proofs.Fencing.{fencing-can, fencing-is-within, fences-by, leaves-by}
use Rattle.nq_lease.proofs.expire.ending.fence_file.Goals as goal

pub commit-requires-clause-fits : goal.commit-requires-clause-fits
commit-requires-clause-fits g c =
    λ kept e.
    fencing-can kept c.args.file c.in-Some.row c.fencing-change.result c.fencing-change.ensures
    (orderly-within kept (g.met.K.Keeper.within c.file.new.self kept e))
    (sym (c.in_ok-row.ensures.told kept (sym c.in_ok-row.ensures.reads.0 ∙ e)) ∙ c.in-Some.is)

pub commit-requires-clause-within : goal.commit-requires-clause-within
commit-requires-clause-within g c =
    λ kept e.
    fencing-is-within kept c.args.file c.in-Some.row c.fencing-change.result c.fencing-change.ensures (g.met.K.Keeper.within c.file.new.self kept e)
    (sym (c.in_ok-row.ensures.told kept (sym c.in_ok-row.ensures.reads.0 ∙ e)) ∙ c.in-Some.is)
    (sym c.can_rise.ensures ∙ c.if-not-can_rise.false)

pub returns-in_err-commit-clause-leaves : goal.returns-in_err-commit-clause-leaves
returns-in_err-commit-clause-leaves g c =
    λ kept e found left.
    leaves-by c.args.file c.in-Some.row c.fencing-change.result c.fencing-change.ensures (sym c.can_rise.ensures ∙ c.if-not-can_rise.false)
    (g.K.Keeper.content c.args.keeper.now) (g.K.Keeper.content c.file.new.self) (g.K.Keeper.content c.commit.new.self) c.in_ok-row.ensures.reads.0
    (λ k t. (g.met.K.Keeper.within c.args.keeper.now k t, sym (c.in_ok-row.ensures.told k t) ∙ c.in-Some.is))
    _ _ found kept e
    (g.met.K.Keeper.parts _ c.file.new.self _ found c.file.ensures.follows c.commit.ensures.follows left)
    (c.file.ensures.leaves kept e found)
    (c.commit.ensures.leaves kept (c.in_ok-row.ensures.reads.0 ∙ e) found)

pub returns-clause-fences : goal.returns-clause-fences
returns-clause-fences g c =
    fences-by c.args.file c.in-Some.row c.fencing-change.result c.fencing-change.ensures (sym c.can_rise.ensures ∙ c.if-not-can_rise.false)
    (g.K.Keeper.content c.args.keeper.now) (g.K.Keeper.content c.file.new.self) (g.K.Keeper.content c.commit.new.self) c.in_ok-row.ensures.reads.0
    (λ k t. (g.met.K.Keeper.within c.args.keeper.now k t, sym (c.in_ok-row.ensures.told k t) ∙ c.in-Some.is))
    _ _ _ c.in_ok-commit.field-0 c.in_ok-row.ensures.reads.1 c.in_ok-commit.ensures.commits

pub returns-clause-leaves : goal.returns-clause-leaves
returns-clause-leaves g c =
    λ kept e found left.
    leaves-by c.args.file c.in-Some.row c.fencing-change.result c.fencing-change.ensures (sym c.can_rise.ensures ∙ c.if-not-can_rise.false)
    (g.K.Keeper.content c.args.keeper.now) (g.K.Keeper.content c.file.new.self) (g.K.Keeper.content c.commit.new.self) c.in_ok-row.ensures.reads.0
    (λ k t. (g.met.K.Keeper.within c.args.keeper.now k t, sym (c.in_ok-row.ensures.told k t) ∙ c.in-Some.is))
    _ _ found kept e
    (g.met.K.Keeper.parts _ c.file.new.self _ found c.file.ensures.follows c.commit.ensures.follows left)
    (c.file.ensures.leaves kept e found)
    (c.commit.ensures.leaves kept (c.in_ok-row.ensures.reads.0 ∙ e) found)

pub returns-in_err-row-clause-leaves : goal.returns-in_err-row-clause-leaves
returns-in_err-row-clause-leaves g c = λ kept e found left. inl (c.file.ensures.leaves kept e found left)

pub returns-in_default-clause-leaves : goal.returns-in_default-clause-leaves
returns-in_default-clause-leaves g c = λ kept e found left. inl (c.file.ensures.leaves kept e found left)

pub returns-then-not-can_rise-clause-leaves : goal.returns-then-not-can_rise-clause-leaves
returns-then-not-can_rise-clause-leaves g c = λ kept e found left. inl (c.file.ensures.leaves kept e found left)

pub returns-in_err-commit-clause-follows : goal.returns-in_err-commit-clause-follows
returns-in_err-commit-clause-follows g c = g.met.K.Keeper.follows_on _ c.file.new.self _ c.file.ensures.follows c.commit.ensures.follows

pub returns-clause-follows : goal.returns-clause-follows
returns-clause-follows g c = g.met.K.Keeper.follows_on _ c.file.new.self _ c.file.ensures.follows c.commit.ensures.follows
