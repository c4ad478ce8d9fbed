use Rattle.nq_laws.proofs.SomeOrders.{links-matter}
use Rattle.nq_laws.proofs.answered.open_calls.links_matter.Goals as goal

pub returns : goal.returns
returns c = links-matter
