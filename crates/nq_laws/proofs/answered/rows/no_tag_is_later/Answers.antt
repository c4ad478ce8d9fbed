use Rattle.nq_laws.proofs.TagRuns.{no-tag-is-later}
use Rattle.nq_laws.proofs.answered.rows.no_tag_is_later.Goals as goal

pub returns : goal.returns
returns c = no-tag-is-later
