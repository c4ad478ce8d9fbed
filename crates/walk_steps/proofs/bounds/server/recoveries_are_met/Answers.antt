use Rattle.walk_steps.proofs.SomeRecovery.{recoveries-are-met}
use Rattle.walk_steps.proofs.bounds.server.recoveries_are_met.Goals as goal

pub returns : goal.returns
returns c = recoveries-are-met
