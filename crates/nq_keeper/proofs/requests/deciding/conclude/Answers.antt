use Rattle.std.proofs.Common.{rules, arith, sym, subst, ap, ◌∙◌}
use Rattle.std.proofs.lemmas.Grind.{common_steps}
use Rattle.std.specs.Option.{ForSome}
use Rattle.nq_model.specs.protocol.Change.{Fits, IsChangeWithin}
use Rattle.nq_model.specs.protocol.Kept.{can_be_kept}
use Rattle.nq_keeper.proofs.Concluding.{leaves-kept, names-host}
use Rattle.nq_keeper.proofs.requests.deciding.conclude.Goals as goal

pub commit-requires-clause-host : goal.commit-requires-clause-host
commit-requires-clause-host g c =
    λ h named. names-host c.args.who c.args.seq c.args.effect c.change_of-change.result h c.change_of-change.ensures named c.requires.host

pub commit-requires-clause-fits : goal.commit-requires-clause-fits
commit-requires-clause-fits g c =
    subst (λ change. ForSome (g.K.Keeper.content c.args.keeper.now) (λ kept. Fits kept change)) (sym c.change_of-change.ensures) c.requires.fits

pub commit-requires-clause-within : goal.commit-requires-clause-within
commit-requires-clause-within g c =
    λ kept told.
    subst (IsChangeWithin kept) (sym c.change_of-change.ensures)
    (c.requires.within kept told (ap can_be_kept (sym c.row_after-row.ensures) ∙ sym c.can_be_kept.ensures ∙ c.if-not-can_be_kept.false))

pub returns-in_err-commit : goal.returns-in_err-commit
returns-in_err-commit g c = record {
  gives = first_of (search rules, grind (arith, common_steps));
  follows = c.commit.ensures.follows;
  leaves = leaves-kept c.args.who c.args.seq c.args.effect c.change_of-change.result (g.K.Keeper.content c.args.keeper.now)
      (g.K.Keeper.leaves c.args.keeper.now c.commit.new.self) c.change_of-change.ensures
      (ap can_be_kept (sym c.row_after-row.ensures) ∙ sym c.can_be_kept.ensures ∙ c.if-not-can_be_kept.false)
      c.commit.ensures.leaves;
}

pub returns : goal.returns
returns g c = record {
  gives = first_of (search rules, grind (arith, common_steps));
  follows = c.commit.ensures.follows;
  leaves = leaves-kept c.args.who c.args.seq c.args.effect c.change_of-change.result (g.K.Keeper.content c.args.keeper.now)
      (g.K.Keeper.leaves c.args.keeper.now c.commit.new.self) c.change_of-change.ensures
      (ap can_be_kept (sym c.row_after-row.ensures) ∙ sym c.can_be_kept.ensures ∙ c.if-not-can_be_kept.false)
      c.commit.ensures.leaves;
}
