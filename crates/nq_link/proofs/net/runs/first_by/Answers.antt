use Rattle.std.proofs.Common.{◌-◌, arith}
use Rattle.nq_link.proofs.Repeating.{repeated-on}
use Rattle.nq_link.proofs.net.runs.first_by.Goals as goal

pub loop-at-preserved : goal.loop-at-preserved
loop-at-preserved c =
    let bytes = c.args.bytes.now in
    let at = c.loop-at.at in
    let step = c.args.step in
    let below = c.loop-at.invariant.0 in
    let room = c.loop-at-test.true in
    let near = c.goes_on.ensures c.if-goes_on.true in (
      omega (arith, below),
      repeated-on bytes (at - step) at step (c.args.place - at) (c.args.place - (at - step)) (omega (arith, room))
          (omega (arith, room, below)) near c.loop-at.invariant.1,
    )
