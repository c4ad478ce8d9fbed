use Rattle.walk_steps.proofs.SomeFile.{numbers-are-met}
use Rattle.walk_steps.proofs.bounds.bounds.numbers_are_met.Goals as goal

pub returns : goal.returns
returns c = numbers-are-met
