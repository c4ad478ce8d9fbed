use Rattle.nq_replay.proofs.FirstRuns.{first-tells}
use Rattle.nq_replay.proofs.version_one.version_one_tells_its_runs.Goals as goal

pub returns : goal.returns
returns c = first-tells
