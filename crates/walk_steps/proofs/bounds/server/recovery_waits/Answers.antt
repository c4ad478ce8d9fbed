use Rattle.walk_steps.proofs.ServerAlone.{recovery-waits}
use Rattle.walk_steps.proofs.bounds.server.recovery_waits.Goals as goal

pub returns : goal.returns
returns c = recovery-waits
