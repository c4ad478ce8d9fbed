use Rattle.std.proofs.Common.{◌+◌, ◌-◌, arith}
use Rattle.nq_link.proofs.Repeating.{repeated-on}
use Rattle.nq_link.proofs.net.runs.last_by.Goals as goal

pub loop-end-preserved : goal.loop-end-preserved
loop-end-preserved c =
    let bytes = c.args.bytes.now in
    let place = c.args.place in
    let end = c.loop-end.end in
    let step = c.args.step in
    let four = c.requires.before in
    let behind = c.loop-end.invariant.0 in
    let within = c.loop-end.invariant.1 in
    let room = c.loop-end-test.true in
    let far = c.goes_on.ensures c.if-goes_on.true in (
      omega (arith, behind),
      omega (arith, room, within),
      repeated-on bytes (place - 4) (end - 4) (end - place) step (end + step - place)
          (omega (arith, four, behind)) (omega (arith, behind)) c.loop-end.invariant.2 far,
    )
