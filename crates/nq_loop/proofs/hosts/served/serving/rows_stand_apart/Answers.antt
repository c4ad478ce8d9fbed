use Rattle.nq_loop.proofs.ServedRows.{served-rows-stand-apart}
use Rattle.nq_loop.proofs.hosts.served.serving.rows_stand_apart.Goals as goal

pub returns : goal.returns
returns c _ = served-rows-stand-apart _ _
