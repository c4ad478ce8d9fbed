use Rattle.std.proofs.Common.{length, refl, reverse, sym, ◌∙◌, ◌<◌, ◌≤◌, ◌+◌, ◌-◌, ap, take, arith}
use Rattle.std.proofs.lemmas.Option.{slice_get_read}
use Rattle.nq_rules.specs.declared.keys.KeyKind.TheVariants.{Reads}
use Rattle.nq_check.proofs.Counts.{valued_linked, counts_within, number_first, number_last}
use Rattle.nq_model.specs.laws.JournalTest.{number_of}
use Rattle.nq_model.specs.laws.LegalTest.{is_counted_with}
use Rattle.nq_check.proofs.legal.is_legal_answer.Goals as goal

pub loop-at-init : goal.loop-at-init
loop-at-init c =
    let whole = c.args.linked.now.whole.now in
    let who = c.args.by.now in
    let q = c.args.n in
    let key = c.call_key-key.result in
    let from = c.back_from-at.result in
    let low : from ≤ length whole = c.back_from-at.ensures.low in (
      omega arith,
      number_first (is_counted_with (reverse whole) who q c.args.v) Reads key whole from
          (valued_linked key (reverse whole) who q c.args.v c.call_key-key.ensures) low c.back_from-at.ensures.free,
    )

pub loop-at-preserved : goal.loop-at-preserved
loop-at-preserved c =
    let whole = c.args.linked.now.whole.now in
    let who = c.args.by.now in
    let q = c.args.n in
    let v = c.args.v in
    let key = c.call_key-key.result in
    let at = c.loop-at.at in
    let number = c.loop-at.number in
    let next = c.back_from-at-in-loop-at.result in
    let up : 0 < at = c.loop-at-test.true in
    let bound : number + at ≤ length whole = c.loop-at.invariant.0 in
    let within : at ≤ length whole = omega arith in
    let low : next ≤ at - 1 = c.back_from-at-in-loop-at.ensures.low in
    let x = c.index-whole-at.result in
    let there = slice_get_read whole (length whole) (at - 1) x refl (omega arith) c.index-whole-at.is in
    let counts = c.is_counted_with-counts.result in (
      counts_within counts number next at (length whole) c.counted-number.result c.counted-number.ensures low up bound,
      c.loop-at.invariant.1 ∙ number_last (is_counted_with (reverse whole) who q v) Reads key whole next at x counts number
          (valued_linked key (reverse whole) who q v c.call_key-key.ensures) up within low there c.is_counted_with-counts.ensures
          c.back_from-at-in-loop-at.ensures.free
          ∙ ap (λ n. number_of (is_counted_with (reverse whole) who q v) (reverse (take next whole)) + n) (sym c.counted-number.ensures),
    )
