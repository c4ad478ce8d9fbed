use Rattle.law_runs.proofs.SomeChained.{chains-met}
use Rattle.law_runs.proofs.files.chains.chains_are_met.Goals as goal

pub returns : goal.returns
returns c = chains-met
