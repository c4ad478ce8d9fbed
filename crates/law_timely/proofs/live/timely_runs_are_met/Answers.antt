use Rattle.law_timely.proofs.SomeTimely.{timely-is-met}
use Rattle.law_timely.proofs.live.timely_runs_are_met.Goals as goal

pub returns : goal.returns
returns c = timely-is-met
