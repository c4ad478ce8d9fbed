use Rattle.nq_journal.proofs.Whole.{one_journal}
use Rattle.nq_journal.proofs.laws.one_journal.Goals as goal

pub returns : goal.returns
returns c = one_journal
