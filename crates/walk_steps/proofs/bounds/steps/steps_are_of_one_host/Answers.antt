use Rattle.walk_steps.proofs.OneHost.{of-one-host}
use Rattle.walk_steps.proofs.bounds.steps.steps_are_of_one_host.Goals as goal

pub returns : goal.returns
returns c = of-one-host
