use Rattle.law_timely.proofs.Soon.{nobody-is-waited-for}
use Rattle.law_timely.proofs.live.nobody_is_waited_for.Goals as goal

pub returns : goal.returns
returns c = nobody-is-waited-for
