use Rattle.nq_replay.specs.Lines.{usage_line}
use Rattle.nq_run.proofs.usage.usage.Goals as goal

pub returns-clause-printed : goal.returns-clause-printed
unfolding usage_line
returns-clause-printed g c = c.put_line.ensures
