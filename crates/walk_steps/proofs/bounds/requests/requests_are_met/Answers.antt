use Rattle.walk_steps.proofs.SomeRequests.{asked-twice}
use Rattle.walk_steps.proofs.bounds.requests.requests_are_met.Goals as goal

pub returns : goal.returns
returns c = asked-twice
