use Rattle.law_runs.proofs.RefusedJournals.{only-deeds-refuse}
use Rattle.law_runs.proofs.legal.refused.only_deeds_refuse.Goals as goal

pub returns : goal.returns
returns c = only-deeds-refuse
