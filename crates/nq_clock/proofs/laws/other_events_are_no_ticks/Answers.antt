use Rattle.nq_clock.proofs.Tracking.{other-events-pass}
use Rattle.nq_clock.proofs.laws.other_events_are_no_ticks.Goals as goal

pub returns : goal.returns
returns c = other-events-pass
