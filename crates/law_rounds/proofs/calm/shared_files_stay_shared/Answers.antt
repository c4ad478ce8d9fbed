use Rattle.law_rounds.proofs.SharedRows.{shared-stay}
use Rattle.law_rounds.proofs.calm.shared_files_stay_shared.Goals as goal

pub returns : goal.returns
returns c = shared-stay
