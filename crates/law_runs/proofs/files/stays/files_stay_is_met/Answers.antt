use Rattle.law_runs.proofs.SomeStaying.{files-stay-is-met}
use Rattle.law_runs.proofs.files.stays.files_stay_is_met.Goals as goal

pub returns : goal.returns
returns c = files-stay-is-met
