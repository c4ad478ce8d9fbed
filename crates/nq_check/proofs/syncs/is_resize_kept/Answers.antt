use Rattle.std.proofs.Common.{◌<◌, ◌≤◌, ◌-◌, length, refl, sym, ◌∙◌, arith}
use Rattle.std.proofs.lemmas.Option.{slice_get_read}
use Rattle.nq_check.proofs.Delayed.{resize_kept}
use Rattle.nq_check.proofs.syncs.is_resize_kept.Goals as goal

pub returns : goal.returns
returns c =
    let whole = c.args.linked.now.whole.now in
    let place = c.args.place in
    let at = c.back_from-at.result in
    let some = c.if-at-eq0.false in
    let low : at ≤ place = c.back_from-at.ensures.low in
    let below : at - 1 < place = omega arith in
    let within : place < length whole = c.requires.ready.within in
    let there = slice_get_read whole (length whole) (at - 1) c.index-whole-at.result refl (omega arith) c.index-whole-at.is in
    λ t. resize_kept whole (at - 1) place c.args.asked.now.who.now c.args.asked.now.q c.args.on c.index-whole-at.result below (omega arith) there
    (sym c.is_resize_by.ensures ∙ c.if-not-is_resize_by.false) (c.are_settled.ensures t)
