use Rattle.nq_journal.proofs.Faulty.{one_fault}
use Rattle.nq_journal.proofs.laws.one_fault.Goals as goal

pub returns : goal.returns
returns c = one_fault
