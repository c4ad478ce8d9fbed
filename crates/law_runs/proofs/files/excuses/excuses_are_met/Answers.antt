use Rattle.law_runs.proofs.SomeLost.{is-lost-sometime}
use Rattle.law_runs.proofs.files.excuses.excuses_are_met.Goals as goal

pub returns : goal.returns
returns c = is-lost-sometime
