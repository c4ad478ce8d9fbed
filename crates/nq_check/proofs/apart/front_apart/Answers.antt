use Rattle.std.proofs.Common.{rules, ◌≡◌, ◌+◌, true, length, reverse, refl, sym, subst, take}
use Rattle.std.proofs.lemmas.Option.{slice_get_read}
use Rattle.nq_model.specs.laws.Journal.{Each}
use Rattle.nq_check.specs.Apart.{IsRankedBelow}
use Rattle.nq_check.specs.declared.rules.Rule.TheVariants.{Accounted}
use Rattle.nq_check.proofs.MovesOn.{one_more}
use Rattle.nq_check.proofs.Ranging.{accounts_apart, none_twice, ranked_more}
use Rattle.nq_rules.proofs.Places.{taken_here}
use Rattle.nq_check.proofs.apart.front_apart.Goals as goal

pub loop-place-preserved : goal.loop-place-preserved
loop-place-preserved c =
    let whole = c.args.whole.now in
    let place = c.loop-place.place in
    let ranges = c.args.sorted.now in
    let marks = c.args.marks.now.entries in
    let entry = c.index-whole-place.result in
    let there = slice_get_read whole (length whole) place entry refl c.loop-place-test.true c.index-whole-place.is in
    let split = taken_here whole place entry there in
    let before = reverse (take place whole) in
    let yes : c.is_ranked.result ≡ true = search rules in
    let some : c.covers_some.result ≡ true = search rules in
    let ranked = c.is_ranked.ensures yes in
    let h = c.loop-place.invariant in (
      subst (λ l. Each (IsRankedBelow ranges marks (place + 1)) l) (sym split) (ranked_more ranges marks place entry before ranked h.0),
      one_more Accounted whole place entry there
          (accounts_apart (reverse whole) entry before (none_twice ranges marks place entry before c.requires.apart ranked h.0) (c.covers_some.ensures some)) h.1,
    )
