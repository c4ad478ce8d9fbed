use Rattle.std.proofs.Common.{◌≤◌, ◌<◌, ◌-◌, length, refl, arith}
use Rattle.std.proofs.lemmas.Option.{slice_get_read}
use Rattle.nq_check.specs.Losses.{is_told}
use Rattle.nq_check.proofs.Passing.{pass_back, pass_none}
use Rattle.nq_check.proofs.Reporting.{next_before, none_next}
use Rattle.nq_check.proofs.reports.reports_front.Goals as goal

pub loop-left-init : goal.loop-left-init
loop-left-init c =
    let whole = c.args.whole.now in (
      omega arith,
      none_next whole (length whole) c.new-next.result.entries refl,
      pass_none (is_told whole) whole (length whole) (length whole) (omega arith),
    )

pub is_told-told-requires-clause-next : goal.is_told-told-requires-clause-next
is_told-told-requires-clause-next c =
    let up : 0 < c.loop-left.left = c.loop-left-test.true in
    next_before c.args.whole.now c.loop-left.left c.loop-left.next.entries up c.loop-left.invariant.1

pub is_told-told-requires-clause-there : goal.is_told-told-requires-clause-there
is_told-told-requires-clause-there c =
    let whole = c.args.whole.now in
    let left = c.loop-left.left in
    let up : 0 < left = c.loop-left-test.true in
    let within : left ≤ length whole = c.loop-left.invariant.0 in
    let below : left - 1 < length whole = omega arith in
    (below, slice_get_read whole (length whole) (left - 1) c.index-whole-place.result refl below c.index-whole-place.is)

pub loop-left-preserved : goal.loop-left-preserved
loop-left-preserved c =
    let whole = c.args.whole.now in
    let left = c.loop-left.left in
    let up : 0 < left = c.loop-left-test.true in
    let within : left ≤ length whole = c.loop-left.invariant.0 in
    let x = c.index-whole-place.result in
    let there = slice_get_read whole (length whole) (left - 1) x refl (omega arith) c.index-whole-place.is in (
      omega arith,
      c.in_ok-take_report.ensures (next_before whole left c.loop-left.next.entries up c.loop-left.invariant.1),
      pass_back (is_told whole) whole left c.loop-left.front c.is_told-told.result x c.front_with-front.result up there c.front_with-front.ensures
          c.is_told-told.ensures c.loop-left.invariant.2,
    )
