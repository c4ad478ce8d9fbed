use Rattle.std.proofs.Common.{rules, ◌≡◌, true, length, refl, reverse, sym, subst, take}
use Rattle.std.proofs.lemmas.Option.{slice_get_read}
use Rattle.nq_rules.specs.InOrder.{AreLines}
use Rattle.nq_check.specs.declared.rules.Rule.TheVariants.{Ordered}
use Rattle.nq_check.proofs.MovesOn.{one_more}
use Rattle.nq_rules.proofs.Places.{taken_here}
use Rattle.nq_check.proofs.ordering.ordered_front.Goals as goal

pub stands-requires-clause-there : goal.stands-requires-clause-there
stands-requires-clause-there c = (
  c.loop-place-test.true,
  slice_get_read c.args.whole.now (length c.args.whole.now) c.loop-place.place c.index-whole-place.result refl c.loop-place-test.true
      c.index-whole-place.is,
)

pub loop-place-preserved : goal.loop-place-preserved
loop-place-preserved c =
    let whole = c.args.whole.now in
    let place = c.loop-place.place in
    let entry = c.index-whole-place.result in
    let there = slice_get_read whole (length whole) place entry refl c.loop-place-test.true c.index-whole-place.is in
    let yes : c.in_ok-stands.field-0 ≡ true = search rules in
    let h = c.in_ok-stands.ensures yes (reverse (take place whole)) c.loop-place.invariant.0 in (
      subst (λ l. AreLines (reverse whole) l c.stands.new.lines.entries) (sym (taken_here whole place entry there)) h.1,
      one_more Ordered whole place entry there h.0 c.loop-place.invariant.1,
    )
