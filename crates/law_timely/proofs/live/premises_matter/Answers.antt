use Rattle.law_timely.proofs.Premises.{premises-matter}
use Rattle.law_timely.proofs.live.premises_matter.Goals as goal

pub returns : goal.returns
returns c = premises-matter
