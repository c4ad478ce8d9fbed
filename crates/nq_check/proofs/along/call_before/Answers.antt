use Rattle.std.proofs.Common.{length, refl, reverse, take, sym, ◌∙◌, ap, arith, ◌≤◌, ◌<◌, ◌-◌}
use Rattle.std.proofs.lemmas.Option.{slice_get_read}
use Rattle.std.specs.Option.{option_or}
use Rattle.nq_model.specs.laws.Journal.{call_of, told_by}
use Rattle.nq_check.proofs.Climbs.{or_none, skip_told, told_more}
use Rattle.nq_check.proofs.Followed.{told_last}
use Rattle.nq_check.proofs.along.call_before.Goals as goal

pub loop-at-init : goal.loop-at-init
loop-at-init c =
    let whole = c.args.whole.now in
    let who = c.args.by.now in
    let q = c.args.n in
    let from = c.back_from-at.result in (
      c.back_from-at.ensures.low,
      skip_told c.call_key-key.result who q whole from c.args.place c.call_key-key.ensures c.back_from-at.ensures.low c.requires.within
          c.back_from-at.ensures.free
          ∙ sym (or_none (call_of (reverse (take from whole)) who q)),
    )

pub loop-at-preserved : goal.loop-at-preserved
loop-at-preserved c =
    let whole = c.args.whole.now in
    let who = c.args.by.now in
    let q = c.args.n in
    let at = c.loop-at.at in
    let up : 0 < at = c.loop-at-test.true in
    let upto : c.args.place ≤ length whole = c.requires.within in
    let low_at : at ≤ c.args.place = c.loop-at.invariant.0 in
    let within : at ≤ length whole = omega arith in
    let low : c.back_from-at-in-loop-at.result ≤ at - 1 = c.back_from-at-in-loop-at.ensures.low in
    let there = slice_get_read whole (length whole) (at - 1) c.index-whole-at.result refl (omega arith) c.index-whole-at.is in
    let next = c.back_from-at-in-loop-at.result in
    let told = told_by c.index-whole-at.result who q in (
      omega arith,
      c.loop-at.invariant.1
          ∙ ap (λ o. option_or o c.loop-at.call)
          (told_last c.call_key-key.result who q whole next at c.index-whole-at.result c.call_key-key.ensures up within low there
          c.back_from-at-in-loop-at.ensures.free)
          ∙ told_more (call_of (reverse (take next whole)) who q) told c.loop-at.call
          ∙ ap (λ o. option_or (call_of (reverse (take next whole)) who q) o)
          (ap (λ t. option_or t c.loop-at.call) (sym c.told_by.ensures) ∙ sym c.or-call.ensures),
    )
