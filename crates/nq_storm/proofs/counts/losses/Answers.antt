use Rattle.std.proofs.Common.{arith}
use Rattle.nq_storm.proofs.Counting.{one_more}
use Rattle.nq_storm.proofs.counts.losses.Goals as goal

pub loop-entry-preserved : goal.loop-entry-preserved
loop-entry-preserved c = record {
  counted = one_more _ c.loop-entry.entry-index c.loop-entry.lost c.losses_of-lost.result c.entry-item.result (omega arith)
      c.loop-entry.invariant.counted c.losses_of-lost.ensures.value c.entry-item.is;
  few = omega arith;
}
