use Rattle.nq_laws.proofs.CachedReads.{cached-in-every-run}
use Rattle.nq_laws.proofs.cached.cached_at_once_in_every_run.Goals as goal

pub returns : goal.returns
returns c = cached-in-every-run
