use Rattle.std.proofs.Common.{◌≡◌, ◌≤◌, ◌+◌, length, refl, sym, subst, arith}
use Rattle.std.proofs.lemmas.Option.{slice_get_read}
use Rattle.nq_check.specs.Rising.{store_time}
use Rattle.nq_check.proofs.Timing.{AreNoLater, no_later_next, rises_next}
use Rattle.nq_check.proofs.rising.rising_front.Goals as goal

pub loop-place-preserved : goal.loop-place-preserved
loop-place-preserved c =
    let whole = c.args.whole.now in
    let place = c.loop-place.place in
    let time = c.loop-place.time in
    let entry = c.index-whole-place.result in
    let there = slice_get_read whole (length whole) place entry refl c.loop-place-test.true c.index-whole-place.is in
    let is : c.store_time-next.result ≡ store_time entry time = c.store_time-next.ensures in
    let kept = c.if-next-time.false in
    let up : time ≤ store_time entry time = omega arith in (
      subst (λ t. AreNoLater whole (place + 1) t) (sym is) (no_later_next whole place entry time there up c.loop-place.invariant.0),
      rises_next whole place entry time there up c.loop-place.invariant.0 c.loop-place.invariant.1,
    )
