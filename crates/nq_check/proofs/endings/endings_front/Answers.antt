use Rattle.std.proofs.Common.{rules, ◌≡◌, true, length, refl}
use Rattle.std.proofs.lemmas.Option.{slice_get_read}
use Rattle.nq_check.specs.Losses.{is_ended}
use Rattle.nq_check.proofs.Passing.{pass_up}
use Rattle.nq_check.proofs.endings.endings_front.Goals as goal

pub is_ended-requires-clause-there : goal.is_ended-requires-clause-there
is_ended-requires-clause-there c = (
  c.loop-place-test.true,
  slice_get_read c.args.whole.now (length c.args.whole.now) c.loop-place.place c.index-whole-place.result refl c.loop-place-test.true
      c.index-whole-place.is,
)

pub loop-place-preserved : goal.loop-place-preserved
loop-place-preserved c =
    let whole = c.args.whole.now in
    let place = c.loop-place.place in
    let entry = c.index-whole-place.result in
    let there = slice_get_read whole (length whole) place entry refl c.loop-place-test.true c.index-whole-place.is in
    let yes : c.is_ended.result ≡ true = search rules in
    pass_up (is_ended whole) whole 0 place entry there (c.is_ended.ensures yes) c.loop-place.invariant
