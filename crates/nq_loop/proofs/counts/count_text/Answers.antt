use Rattle.nq_loop.specs.Counts.{loop_line}
use Rattle.nq_loop.proofs.counts.count_text.Goals as goal

pub returns-in-Ok : goal.returns-in-Ok
unfolding loop_line
returns-in-Ok c = c.in-Ok.ensures.ok
