use Rattle.std.proofs.Common.{◌∙◌, arith}
use Rattle.nq_directory.proofs.Dots.{shorter, ends, empty}
use Rattle.nq_directory.proofs.prefix.directory_len.Goals as goal

pub loop-end-preserved : goal.loop-end-preserved
loop-end-preserved c = record {
  within = omega arith;
  same = c.loop-end.invariant.same ∙ shorter c.args.bytes.now c.loop-end.end c.loop-end-test.true c.loop-end.invariant.within c.if-bytes-end-ne46.true;
}

pub returns-else-bytes-end-ne46-clause-front : goal.returns-else-bytes-end-ne46-clause-front
returns-else-bytes-end-ne46-clause-front c =
    c.loop-end.invariant.same ∙ ends c.args.bytes.now c.loop-end.end c.loop-end-test.true c.loop-end.invariant.within c.if-bytes-end-ne46.false

pub returns-after-loop-end-clause-front : goal.returns-after-loop-end-clause-front
returns-after-loop-end-clause-front c = c.loop-end.invariant.same ∙ empty c.args.bytes.now c.loop-end.end (omega arith)
