use Rattle.walk_steps.proofs.LeaseIntervals.{kept-in-every-run}
use Rattle.walk_steps.proofs.bounds.intervals.lease_interval_in_every_run.Goals as goal

pub returns : goal.returns
returns c = kept-in-every-run
