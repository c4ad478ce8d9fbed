use Rattle.nq_storm.specs.Counts.{storm_line}
use Rattle.nq_storm.proofs.counts.count_text.Goals as goal

pub returns-in-Ok : goal.returns-in-Ok
unfolding storm_line
returns-in-Ok c = c.in-Ok.ensures.ok
