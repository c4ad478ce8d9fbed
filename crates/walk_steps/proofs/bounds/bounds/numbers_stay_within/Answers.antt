use Rattle.walk_steps.proofs.WorldNumbers.{numbers-stay-within}
use Rattle.walk_steps.proofs.bounds.bounds.numbers_stay_within.Goals as goal

pub returns : goal.returns
returns c = numbers-stay-within
