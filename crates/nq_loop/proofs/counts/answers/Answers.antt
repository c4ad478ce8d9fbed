use Rattle.std.proofs.Common.{arith}
use Rattle.nq_loop.proofs.Counting.{one-more}
use Rattle.nq_loop.specs.Counts.{is_answer}
use Rattle.nq_loop.proofs.counts.answers.Goals as goal

pub loop-entry-preserved : goal.loop-entry-preserved
loop-entry-preserved c = record {
  counted = one-more is_answer _ c.loop-entry.entry-index c.loop-entry.answers c.answer_of-answers.result c.entry-item.result (omega arith)
      c.loop-entry.invariant.counted c.answer_of-answers.ensures.value c.entry-item.is;
  few = omega arith;
}
