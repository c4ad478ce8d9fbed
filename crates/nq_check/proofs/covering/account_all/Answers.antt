use Rattle.std.proofs.Common.{rules, ◌≡◌, true, length, reverse, refl, sym, subst, take}
use Rattle.std.proofs.lemmas.Option.{slice_get_read}
use Rattle.nq_model.specs.laws.Journal.{Each}
use Rattle.nq_check.specs.Covered.{IsCoveredTo}
use Rattle.nq_check.specs.declared.rules.Rule.TheVariants.{Accounted}
use Rattle.nq_check.proofs.MovesOn.{one_more}
use Rattle.nq_rules.proofs.Places.{taken_here}
use Rattle.nq_check.proofs.covering.account_all.Goals as goal

pub loop-place-preserved : goal.loop-place-preserved
loop-place-preserved c =
    let whole = c.args.whole.now in
    let place = c.loop-place.place in
    let entry = c.index-whole-place.result in
    let there = slice_get_read whole (length whole) place entry refl c.loop-place-test.true c.index-whole-place.is in
    let split = taken_here whole place entry there in
    let yes : c.in_ok-accounts.field-0 ≡ true = search rules in
    let h = c.in_ok-accounts.ensures yes (reverse (take place whole)) c.loop-place.invariant.0 in (
      subst (λ l. Each (IsCoveredTo 18446744073709551615 c.accounts.new.reach) l) (sym split) h.1,
      one_more Accounted whole place entry there h.0
          c.loop-place.invariant.1,
    )
