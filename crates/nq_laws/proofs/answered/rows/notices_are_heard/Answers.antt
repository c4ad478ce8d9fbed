use Rattle.nq_laws.proofs.HeardNotices.{notices-are-heard}
use Rattle.nq_laws.proofs.answered.rows.notices_are_heard.Goals as goal

pub returns : goal.returns
returns c = notices-are-heard
