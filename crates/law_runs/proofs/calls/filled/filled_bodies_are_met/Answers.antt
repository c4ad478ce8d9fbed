use Rattle.law_runs.proofs.SomeFilled.{some-filled}
use Rattle.law_runs.proofs.calls.filled.filled_bodies_are_met.Goals as goal

pub returns : goal.returns
returns c = some-filled
