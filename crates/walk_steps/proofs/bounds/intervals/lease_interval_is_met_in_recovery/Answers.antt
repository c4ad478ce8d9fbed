use Rattle.walk_steps.proofs.SomeLease.{is-met-in-recovery}
use Rattle.walk_steps.proofs.bounds.intervals.lease_interval_is_met_in_recovery.Goals as goal

pub returns : goal.returns
returns c = is-met-in-recovery
