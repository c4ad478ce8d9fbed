use Rattle.std.proofs.Common.{◌≤◌, ◌<◌, ◌-◌, length, refl, sym, ◌∙◌, arith}
use Rattle.std.proofs.lemmas.Option.{slice_get_read}
use Rattle.nq_check.specs.Namings.{is_lost_as}
use Rattle.nq_check.proofs.Cutoffs.{exists_before}
use Rattle.nq_check.proofs.namings.is_lost_before.Goals as goal

pub returns-then-at-place : goal.returns-then-at-place
returns-then-at-place c =
    let whole = c.args.whole.now in
    let at = c.args.at in
    let place = c.args.place in
    let some = c.if-at-eq0.false in
    let upto : at ≤ place = c.if-at-place.true in
    let within : place ≤ length whole = c.requires.within in
    let up : 0 < at = omega arith in
    let there = slice_get_read whole (length whole) (at - 1) c.index-whole-at.result refl (omega arith) c.index-whole-at.is in
    λ t. exists_before (is_lost_as c.args.by.now c.args.call.now c.args.span.now) whole (at - 1) place c.index-whole-at.result (omega arith) within
    there (sym c.is_lost_as.ensures ∙ t)
