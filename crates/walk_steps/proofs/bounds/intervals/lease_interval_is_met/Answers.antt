use Rattle.walk_steps.proofs.SomeLease.{is-met}
use Rattle.walk_steps.proofs.bounds.intervals.lease_interval_is_met.Goals as goal

pub returns : goal.returns
returns c = is-met
