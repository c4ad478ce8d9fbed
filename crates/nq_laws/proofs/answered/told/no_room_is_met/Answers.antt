use Rattle.nq_laws.proofs.SomeTold.{no-room-is-met}
use Rattle.nq_laws.proofs.answered.told.no_room_is_met.Goals as goal

pub returns : goal.returns
returns c = no-room-is-met
