use Rattle.nq_laws.proofs.SomeCached.{is-ready-sometime}
use Rattle.nq_laws.proofs.cached.cached_at_once_is_met.Goals as goal

pub returns : goal.returns
returns c = is-ready-sometime
