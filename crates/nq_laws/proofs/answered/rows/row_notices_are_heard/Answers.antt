use Rattle.nq_laws.proofs.TagRuns.{row-notices-heard}
use Rattle.nq_laws.proofs.answered.rows.row_notices_are_heard.Goals as goal

pub returns : goal.returns
returns c = row-notices-heard
