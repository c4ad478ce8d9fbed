use Rattle.nq_laws.proofs.Waiters.{waiters-share}
use Rattle.nq_laws.proofs.answered.rows.waiters_share.Goals as goal

pub returns : goal.returns
returns c = waiters-share
