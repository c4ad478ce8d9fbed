use Rattle.nq_laws.proofs.Headlines.{torn-at-every-moment}
use Rattle.nq_laws.proofs.torn.torn_headline.Goals as goal

pub returns : goal.returns
returns c = torn-at-every-moment
