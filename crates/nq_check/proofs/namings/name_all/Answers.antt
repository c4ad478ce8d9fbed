use Rattle.std.proofs.Common.{rules, ◌≡◌, true, length, refl, sym, subst}
use Rattle.std.proofs.lemmas.Option.{slice_get_read}
use Rattle.nq_check.specs.Losses.{is_naming}
use Rattle.nq_check.specs.Namings.{IsNamed}
use Rattle.nq_check.proofs.Passing.{pass_up}
use Rattle.nq_rules.proofs.Places.{taken_here}
use Rattle.nq_model.specs.laws.Journal.{Each}
use Rattle.nq_check.proofs.namings.name_all.Goals as goal

pub loop-place-preserved : goal.loop-place-preserved
loop-place-preserved c =
    let whole = c.args.whole.now in
    let place = c.loop-place.place in
    let entry = c.index-whole-place.result in
    let there = slice_get_read whole (length whole) place entry refl c.loop-place-test.true c.index-whole-place.is in
    let yes : c.in_ok-names_anew.field-0 ≡ true = search rules in
    let h = c.in_ok-names_anew.ensures yes c.loop-place.invariant.0 in (
      subst (λ l. Each (IsNamed c.names_anew.new.names.named.entries) l) (sym (taken_here whole place entry there)) h.1,
      pass_up (is_naming whole) whole
          0 place entry there h.0 c.loop-place.invariant.1,
    )
