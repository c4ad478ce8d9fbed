use Rattle.nq_keeper.proofs.OnceOnly.{kept-is-said}
use Rattle.nq_keeper.proofs.requests.laws.what_is_kept_is_said.Goals as goal

pub returns : goal.returns
returns c = kept-is-said
