use Rattle.law_runs.proofs.ChainWorlds.{chains-know}
use Rattle.law_runs.proofs.files.chains.chained_leases_know_the_file_in_every_run.Goals as goal

pub returns : goal.returns
returns c = chains-know
