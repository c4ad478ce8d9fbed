use Rattle.law_runs.proofs.SomeHeld.{held-are-met}
use Rattle.law_runs.proofs.legal.held.held_are_met.Goals as goal

pub returns : goal.returns
returns c = held-are-met
