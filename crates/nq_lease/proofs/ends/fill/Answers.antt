use Rattle.std.proofs.Common.{refl, arith}
use Rattle.nq_lease.proofs.Keeping.{ends-begin, ends-more}
use Rattle.nq_lease.proofs.ends.fill.Goals as goal

pub loop-row-init : goal.loop-row-init
loop-row-init c = (ends-begin _ c.clear.ensures.items, rw c.clear.ensures.items refl, omega (arith, c.clear.ensures.capacity))

pub loop-row-preserved : goal.loop-row-preserved
loop-row-preserved c = (
  ends-more c.args.rows.now c.loop-row.row-index c.row-item.result _ _ c.loop-row-test.true c.row-item.is c.loop-row.invariant.0
      (λ time. rw c.end_of.ensures at c.add.ensures.counts time) c.add.ensures.ends,
  omega (arith, c.add.ensures.all, c.loop-row.invariant.1),
  omega (arith, c.add.ensures.capacity, c.loop-row.invariant.2),
)
