use Rattle.law_rounds.proofs.RecoveryRounds.{whole-recoveries-end}
use Rattle.law_rounds.proofs.rounds.whole_recoveries_end.Goals as goal

pub returns : goal.returns
returns c = whole-recoveries-end
