use Rattle.std.proofs.Common.{length, refl}
use Rattle.std.proofs.lemmas.Option.{slice_get_read}
use Rattle.nq_check.proofs.Storing.{long_more, none_yet, stored_more}
use Rattle.nq_check.proofs.stored.find_stored.Goals as goal

pub is_covered-told-requires-clause-there : goal.is_covered-told-requires-clause-there
is_covered-told-requires-clause-there c =
    slice_get_read c.args.whole.now (length c.args.whole.now) c.loop-place.place c.index-whole-place.result refl c.loop-place-test.true
    c.index-whole-place.is

pub loop-place-init : goal.loop-place-init
loop-place-init c = none_yet c.args.whole.now c.none_told-stored.result.items c.none_told-stored.ensures

pub loop-place-preserved : goal.loop-place-preserved
loop-place-preserved c =
    let whole = c.args.whole.now in
    let place = c.loop-place.place in
    let entry = c.index-whole-place.result in
    let before = c.loop-place.stored.items in
    let after = c.keep_told.new.stored.items in
    let told = c.is_covered-told.result in
    let there = slice_get_read whole (length whole) place entry refl c.loop-place-test.true c.index-whole-place.is in (
      long_more before after told place c.loop-place.invariant.0 c.in_ok-keep_told.ensures,
      stored_more whole place entry before after told there c.loop-place.invariant.0 c.in_ok-keep_told.ensures c.is_covered-told.ensures
          c.loop-place.invariant.1,
    )
