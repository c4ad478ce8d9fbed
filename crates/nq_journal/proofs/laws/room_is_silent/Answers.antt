use Rattle.nq_journal.proofs.Whole.{plain_text}
use Rattle.nq_journal.proofs.laws.room_is_silent.Goals as goal

pub returns : goal.returns
returns c = plain_text
