use Rattle.nq_replay.proofs.Lawfully.{played-runs-are-lawful}
use Rattle.nq_replay.proofs.play.laws.played_runs_are_lawful.Goals as goal

pub returns : goal.returns
returns c = played-runs-are-lawful
