use Rattle.law_rounds.proofs.Quiet.{whole-rounds-end-quiet}
use Rattle.law_rounds.proofs.rounds.whole_rounds_end_quiet.Goals as goal

pub returns : goal.returns
returns c = whole-rounds-end-quiet
