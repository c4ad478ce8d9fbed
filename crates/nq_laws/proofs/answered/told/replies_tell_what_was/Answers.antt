use Rattle.nq_laws.proofs.RunTells.{replies-tell-what-was}
use Rattle.nq_laws.proofs.answered.told.replies_tell_what_was.Goals as goal

pub returns : goal.returns
returns c = replies-tell-what-was
