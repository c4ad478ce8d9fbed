use Rattle.nq_world.proofs.Little.{events-send-little}
use Rattle.nq_world.proofs.laws.events_send_little.Goals as goal

pub returns : goal.returns
returns c = events-send-little
