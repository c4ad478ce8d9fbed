use Rattle.nq_store.proofs.Closed.{read-held}
use Rattle.nq_store.proofs.images.reading.what_is_read_is_held.Goals as goal

pub returns : goal.returns
returns c bytes found is = read-held bytes found is
