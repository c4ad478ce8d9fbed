use Rattle.law_rounds.proofs.Turns.{turns-fall}
use Rattle.law_rounds.proofs.calm.turns_fall.Goals as goal

pub returns : goal.returns
returns c = turns-fall
