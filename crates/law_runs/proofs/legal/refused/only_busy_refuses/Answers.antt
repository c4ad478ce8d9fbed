use Rattle.law_runs.proofs.RefusedJournals.{only-busy-refuses}
use Rattle.law_runs.proofs.legal.refused.only_busy_refuses.Goals as goal

pub returns : goal.returns
returns c = only-busy-refuses
