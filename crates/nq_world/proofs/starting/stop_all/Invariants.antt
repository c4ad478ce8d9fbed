use Rattle.std.proofs.Common.{vec_len}
use Rattle.nq_world.proofs.starting.stop_all.Given as goal

abbrev pub decreases-loop-client : goal.decreases-loop-client
decreases-loop-client l = vec_len l.clients
