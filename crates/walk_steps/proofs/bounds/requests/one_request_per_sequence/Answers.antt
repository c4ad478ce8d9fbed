use Rattle.walk_steps.proofs.OneRequests.{one-in-every-run}
use Rattle.walk_steps.proofs.bounds.requests.one_request_per_sequence.Goals as goal

pub returns : goal.returns
returns c = one-in-every-run
