use Rattle.nq_model.proofs.CachedReads.{cached-at-once}
use Rattle.nq_model.proofs.cached.cached_at_once.Goals as goal

pub returns : goal.returns
returns c = cached-at-once
