use Rattle.law_runs.proofs.RefusedJournals.{only-calls-refuse}
use Rattle.law_runs.proofs.legal.refused.only_calls_refuse.Goals as goal

pub returns : goal.returns
returns c = only-calls-refuse
