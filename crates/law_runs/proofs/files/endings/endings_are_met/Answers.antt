use Rattle.law_runs.proofs.SomeEnding.{ends-sometime}
use Rattle.law_runs.proofs.files.endings.endings_are_met.Goals as goal

pub returns : goal.returns
returns c = ends-sometime
