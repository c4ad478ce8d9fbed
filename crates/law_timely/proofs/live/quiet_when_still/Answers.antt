use Rattle.law_timely.proofs.Stills.{quiet-when-still}
use Rattle.law_timely.proofs.live.quiet_when_still.Goals as goal

pub returns : goal.returns
returns c = quiet-when-still
