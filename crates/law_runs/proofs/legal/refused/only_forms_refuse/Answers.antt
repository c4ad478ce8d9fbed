use Rattle.law_runs.proofs.RefusedJournals.{only-forms-refuse}
use Rattle.law_runs.proofs.legal.refused.only_forms_refuse.Goals as goal

pub returns : goal.returns
returns c = only-forms-refuse
