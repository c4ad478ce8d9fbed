use Rattle.walk_steps.proofs.Saying.{server-says-plainly}
use Rattle.walk_steps.proofs.bounds.says.server_says_plainly.Goals as goal

pub returns : goal.returns
returns c = server-says-plainly
