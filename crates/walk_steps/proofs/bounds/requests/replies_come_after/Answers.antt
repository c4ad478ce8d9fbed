use Rattle.walk_steps.proofs.OneRequests.{replies-come-after}
use Rattle.walk_steps.proofs.bounds.requests.replies_come_after.Goals as goal

pub returns : goal.returns
returns c = replies-come-after
