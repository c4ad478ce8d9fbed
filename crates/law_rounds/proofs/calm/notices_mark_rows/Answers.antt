use Rattle.law_rounds.proofs.NoticeRows.{notices-mark}
use Rattle.law_rounds.proofs.calm.notices_mark_rows.Goals as goal

pub returns : goal.returns
returns c = notices-mark
