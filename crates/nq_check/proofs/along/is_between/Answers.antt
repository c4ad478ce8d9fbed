use Rattle.std.proofs.Common.{length, refl, sym, ◌∙◌, ◌<◌, ◌≤◌, ◌-◌, arith}
use Rattle.std.proofs.lemmas.Option.{slice_get_read}
use Rattle.nq_rules.specs.Sought.{passes}
use Rattle.nq_check.proofs.Climbs.{sought_here}
use Rattle.nq_check.proofs.Standing.{none_first, none_more}
use Rattle.nq_check.proofs.along.is_between.Goals as goal

pub returns-then-passes : goal.returns-then-passes
returns-then-passes c =
    let whole = c.args.whole.now in
    let at = c.loop-at.at in
    let past : c.args.from < at = c.loop-at-test.true in
    let within : c.args.place ≤ length whole = c.requires.within in
    let below : at ≤ c.args.place = c.loop-at.invariant.0 in
    let there = slice_get_read whole (length whole) (at - 1) c.index-whole-at.result refl (omega arith) c.index-whole-at.is in
    record {
      yes = λ t. record {
        place = at - 1;
        entry = c.index-whole-at.result;
        low = omega arith;
        below = omega arith;
        there = there;
        passes = sym c.passes.ensures ∙ c.if-passes.true;
      };
      no = λ e. absurd (cc);
    }

pub loop-at-init : goal.loop-at-init
loop-at-init c =
    let s = c.args.sought in (
      c.back_from-at.ensures.low,
      none_first (passes s) c.kind_sought-kind.result c.key_sought-key.result c.args.whole.now c.back_from-at.result c.args.place
          (sought_here s c.kind_sought-kind.result c.key_sought-key.result c.kind_sought-kind.ensures c.key_sought-key.ensures)
          c.back_from-at.ensures.free,
    )

pub loop-at-preserved : goal.loop-at-preserved
loop-at-preserved c =
    let whole = c.args.whole.now in
    let s = c.args.sought in
    let at = c.loop-at.at in
    let past : c.args.from < at = c.loop-at-test.true in
    let up : 0 < at = omega arith in
    let within : c.args.place ≤ length whole = c.requires.within in
    let below : at ≤ c.args.place = c.loop-at.invariant.0 in
    let next = c.back_from-at-in-loop-at in
    let low : next.result ≤ at - 1 = next.ensures.low in
    let there = slice_get_read whole (length whole) (at - 1) c.index-whole-at.result refl (omega arith) c.index-whole-at.is in (
      omega arith,
      none_more (passes s) c.kind_sought-kind.result c.key_sought-key.result whole next.result at c.args.place c.index-whole-at.result
          (sought_here s c.kind_sought-kind.result c.key_sought-key.result c.kind_sought-kind.ensures c.key_sought-key.ensures)
          up there (sym c.passes.ensures ∙ c.if-passes.false) next.ensures.free c.loop-at.invariant.1,
    )
