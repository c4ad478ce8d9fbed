use Rattle.walk_steps.proofs.WorldSends.{events-send-few}
use Rattle.walk_steps.proofs.bounds.packets.events_send_few.Goals as goal

pub returns : goal.returns
returns c = events-send-few
