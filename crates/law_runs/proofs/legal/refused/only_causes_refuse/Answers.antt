use Rattle.law_runs.proofs.RefusedJournals.{only-causes-refuse}
use Rattle.law_runs.proofs.legal.refused.only_causes_refuse.Goals as goal

pub returns : goal.returns
returns c = only-causes-refuse
