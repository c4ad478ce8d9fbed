use Rattle.nq_world.proofs.ReplyWorlds.{replies-are-of-their-request}
use Rattle.nq_world.proofs.replies.replies.replies_are_of_their_request.Goals as goal

pub returns : goal.returns
returns c = replies-are-of-their-request
