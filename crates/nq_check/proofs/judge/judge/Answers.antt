use Rattle.std.proofs.Common.{length, refl, sym, ◌∙◌}
use Rattle.std.proofs.lemmas.Option.{slice_get_read}
use Rattle.nq_check.proofs.Verdicts.{found_here, none_here}
use Rattle.nq_check.proofs.judge.judge.Goals as goal

pub first_rule-requires-clause-there : goal.first_rule-requires-clause-there
first_rule-requires-clause-there c = (
  c.loop-place-test.true,
  slice_get_read c.args.whole.now (length c.args.whole.now) c.loop-place.place c.index-whole-place.result refl c.loop-place-test.true
      c.index-whole-place.is,
)

pub returns-in-Some : goal.returns-in-Some
returns-in-Some c =
    let here = slice_get_read c.args.whole.now (length c.args.whole.now) c.loop-place.place c.index-whole-place.result refl c.loop-place-test.true
    c.index-whole-place.is in
    found_here c.args.whole.now c.loop-place.place c.index-whole-place.result c.in-Some.rule here c.loop-place.invariant
    (sym c.first_rule.ensures ∙ c.in-Some.is)

pub loop-place-preserved : goal.loop-place-preserved
loop-place-preserved c =
    let here = slice_get_read c.args.whole.now (length c.args.whole.now) c.loop-place.place c.index-whole-place.result refl c.loop-place-test.true
    c.index-whole-place.is in
    none_here c.args.whole.now c.loop-place.place c.index-whole-place.result here c.loop-place.invariant (sym c.first_rule.ensures ∙ c.in_default.is)
