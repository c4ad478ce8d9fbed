use Rattle.std.proofs.Common.{rules, ◌<◌, ◌≤◌, ◌-◌, length, refl, reverse, take, arith}
use Rattle.std.specs.Prelude.{IsTrue}
use Rattle.std.proofs.lemmas.Option.{slice_get_read}
use Rattle.nq_check.proofs.Delayed.{walk_begun, walk_ended, walked_past}
use Rattle.nq_check.proofs.settled.are_settled.Goals as goal

pub loop-at-init : goal.loop-at-init
loop-at-init c =
    let whole = c.args.linked.now.whole.now in
    let place = c.args.these.now.place in
    let from = c.back_from-at.result in
    let within : place < length whole = c.requires.within in (
      c.back_from-at.ensures.low,
      walk_begun (reverse whole) (reverse c.args.stores.now) (reverse (take place whole)) c.args.these.now.who.now c.args.these.now.file
          c.file_key-key.result whole from place
          c.file_key-key.ensures c.back_from-at.ensures.low (omega arith) c.back_from-at.ensures.free,
    )

pub loop-at-preserved : goal.loop-at-preserved
loop-at-preserved c =
    let whole = c.args.linked.now.whole.now in
    let place = c.args.these.now.place in
    let at = c.loop-at.at in
    let above : c.args.known < at = c.loop-at-test.true in
    let below : at ≤ place = c.loop-at.invariant.0 in
    let within : place < length whole = c.requires.within in
    let next = c.back_from-at-in-loop-at.result in
    let low : next ≤ at - 1 = c.back_from-at-in-loop-at.ensures.low in
    let there = slice_get_read whole (length whole) (at - 1) c.index-whole-at.result refl (omega arith) c.index-whole-at.is in
    let yes : IsTrue c.is_settled.result = search rules in (
      omega arith,
      λ h. c.loop-at.invariant.1 (walked_past (reverse whole) (reverse c.args.stores.now) (reverse (take place whole)) c.args.these.now.who.now
          c.args.these.now.file c.file_key-key.result whole next at c.index-whole-at.result
          c.file_key-key.ensures (omega arith) (omega arith) low there (c.is_settled.ensures yes) c.back_from-at-in-loop-at.ensures.free h),
    )

pub returns : goal.returns
returns c =
    let whole = c.args.linked.now.whole.now in
    let place = c.args.these.now.place in
    let at = c.loop-at.at in
    let low : at ≤ c.args.known = c.loop-at-test.false in
    let within : place < length whole = c.requires.within in
    λ t. c.loop-at.invariant.1 (walk_ended (reverse whole) (reverse c.args.stores.now) c.args.these.now.who.now c.args.these.now.file whole at
    c.args.known place low c.requires.known.0 (omega arith) c.requires.known.1)
