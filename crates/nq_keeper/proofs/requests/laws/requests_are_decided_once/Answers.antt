use Rattle.nq_keeper.proofs.OnceOnly.{at-most-once}
use Rattle.nq_keeper.proofs.requests.laws.requests_are_decided_once.Goals as goal

pub returns : goal.returns
returns c = at-most-once
