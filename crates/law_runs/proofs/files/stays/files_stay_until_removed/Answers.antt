use Rattle.law_runs.proofs.FilesStay.{files-stay-until-removed}
use Rattle.law_runs.proofs.files.stays.files_stay_until_removed.Goals as goal

pub returns : goal.returns
returns c = files-stay-until-removed
