use Rattle.nq_laws.proofs.CachedChanges.{changes-nothing-else}
use Rattle.nq_laws.proofs.cached.cached_reads_change_nothing_else.Goals as goal

pub returns : goal.returns
returns c = changes-nothing-else
