use Rattle.nq_world.proofs.ReplyWorlds.{each-packet-is-heard}
use Rattle.nq_world.proofs.replies.replies.each_packet_is_heard.Goals as goal

pub returns : goal.returns
returns c = each-packet-is-heard
