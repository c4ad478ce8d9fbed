use Rattle.law_timely.proofs.Recoveries.{recoveries-end-in-time}
use Rattle.law_timely.proofs.live.recoveries_end_in_time.Goals as goal

pub returns : goal.returns
returns c = recoveries-end-in-time
