use Rattle.std.proofs.Common.{◌∙◌}
use Rattle.nq_bend.proofs.course.Course.see.Goals as goal

pub loop-number-init : goal.loop-number-init
loop-number-init g c = record {
  goes = λ count is. c.in_ok-take_in.ensures.goes c.args.plan.now.head.now c.args.plan.now.old.now.events c.args.plan.now.bends.now count is;
  still = c.in_ok-take_in.ensures.still;
}

pub loop-number-preserved : goal.loop-number-preserved
loop-number-preserved g c = record {
  goes = λ count is. c.in_ok-note_sent.ensures.goes count (c.loop-number.invariant.goes count is);
  still = record {
    ran = c.in_ok-note_sent.ensures.still.ran ∙ c.loop-number.invariant.still.ran;
    over = c.in_ok-note_sent.ensures.still.over ∙ c.loop-number.invariant.still.over;
  };
}
