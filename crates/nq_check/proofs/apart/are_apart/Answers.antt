use Rattle.std.proofs.Common.{rules, ◌≡◌, ◌<◌, true, arith}
use Rattle.nq_check.proofs.Ranging.{apart_all, apart_first, apart_next}
use Rattle.nq_check.proofs.apart.are_apart.Goals as goal

pub loop-next-init : goal.loop-next-init
loop-next-init c = (omega arith, apart_first c.args.sorted.now 1 (omega arith))

pub loop-next-preserved : goal.loop-next-preserved
loop-next-preserved c =
    let next = c.loop-next.next in
    let up : 0 < next = c.loop-next.invariant.0 in
    let yes : c.follows.result ≡ true = search rules in (
      omega arith,
      apart_next c.args.sorted.now next up (c.follows.ensures yes) c.loop-next.invariant.1,
    )

pub returns : goal.returns
returns c =
    let past = c.loop-next-test.false in
    λ t. apart_all c.args.sorted.now c.loop-next.next (omega arith) c.loop-next.invariant.1
