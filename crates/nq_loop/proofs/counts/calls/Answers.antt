use Rattle.std.proofs.Common.{arith}
use Rattle.nq_loop.proofs.Counting.{one-more}
use Rattle.nq_loop.specs.Counts.{is_call}
use Rattle.nq_loop.proofs.counts.calls.Goals as goal

pub loop-entry-preserved : goal.loop-entry-preserved
loop-entry-preserved c = record {
  counted = one-more is_call _ c.loop-entry.entry-index c.loop-entry.calls c.call_of-calls.result c.entry-item.result (omega arith)
      c.loop-entry.invariant.counted c.call_of-calls.ensures.value c.entry-item.is;
  few = omega arith;
}
