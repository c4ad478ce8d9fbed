use Rattle.walk_steps.proofs.OneHost.{rest-on-their-host}
use Rattle.walk_steps.proofs.bounds.steps.steps_rest_on_their_host.Goals as goal

pub returns : goal.returns
returns c = rest-on-their-host
