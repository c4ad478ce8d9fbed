use Rattle.std.proofs.Common.{◌≤◌, ◌<◌, ◌-◌, arith}
use Rattle.nq_check.proofs.Followed.{free_within}
use Rattle.nq_check.proofs.endings.last_before.Goals as goal

pub loop-at-init : goal.loop-at-init
loop-at-init c =
    let upto : c.args.to ≤ c.args.from = c.requires.upto in
    let low : c.back_from-at.result ≤ c.args.from = c.back_from-at.ensures.low in
    (low, free_within c.args.kind c.args.key c.args.whole.now c.back_from-at.result c.args.from c.args.to upto c.back_from-at.ensures.free)

pub loop-at-preserved : goal.loop-at-preserved
loop-at-preserved c =
    let at = c.loop-at.at in
    let past : c.args.to < at = c.loop-at-test.true in
    let within : at ≤ c.args.from = c.loop-at.invariant.0 in
    let next = c.back_from-at-in-loop-at in
    let low : next.result ≤ at - 1 = next.ensures.low in
    (omega arith, free_within c.args.kind c.args.key c.args.whole.now next.result (at - 1) c.args.to (omega arith) next.ensures.free)
