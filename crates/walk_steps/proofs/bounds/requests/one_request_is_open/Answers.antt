use Rattle.walk_steps.proofs.OneRequests.{one-open-in-every-run}
use Rattle.walk_steps.proofs.bounds.requests.one_request_is_open.Goals as goal

pub returns : goal.returns
returns c = one-open-in-every-run
