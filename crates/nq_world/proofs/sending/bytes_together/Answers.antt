use Rattle.std.proofs.Common.{◌≡◌, ◌≤◌, ◌<◌, ◌+◌, suc, length, take, add-one, arith}
use Rattle.nq_world.specs.Sending.{bytes_together}
use Rattle.nq_world.proofs.Outboxes.{there, sum-take-more, sum-take-below}
use Rattle.nq_world.proofs.sending.bytes_together.Goals as goal

pub returns-in_err-bytes-clause-none : goal.returns-in_err-bytes-clause-none
returns-in_err-bytes-clause-none c none =
    let all = c.args.out.now.datagrams in
    let place = c.loop-place.place in
    let below : place < length all = omega (arith, c.loop-place-test.true, c.len-place-end.ensures) in
    let t = there all place below in
    let more : c.length_at-more.result ≡ length t.element.1 = c.length_at-more.ensures t.element t.is in
    let so_far : c.loop-place.bytes ≡ bytes_together (take place all) = c.loop-place.invariant in
    let next : bytes_together (take (suc place) all) ≡ bytes_together (take place all) + length t.element.1 = sum-take-more _ all place t.element t.is in
    let most : bytes_together (take (suc place) all) ≤ bytes_together all = sum-take-below _ all (suc place) in
    let over = c.in_err-bytes.ensures in
    grind arith

pub loop-place-preserved : goal.loop-place-preserved
loop-place-preserved c =
    let all = c.args.out.now.datagrams in
    let place = c.loop-place.place in
    let below : place < length all = omega (arith, c.loop-place-test.true, c.len-place-end.ensures) in
    let t = there all place below in
    let more : c.length_at-more.result ≡ length t.element.1 = c.length_at-more.ensures t.element t.is in
    let so_far : c.loop-place.bytes ≡ bytes_together (take place all) = c.loop-place.invariant in
    let next : bytes_together (take (suc place) all) ≡ bytes_together (take place all) + length t.element.1 = sum-take-more _ all place t.element t.is in
    let sum = c.in_ok-bytes.ensures.1 in
    rw add-one (omega arith)
