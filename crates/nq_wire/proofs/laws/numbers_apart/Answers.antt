use Rattle.nq_wire.proofs.Whole.{number_of-apart}
use Rattle.nq_wire.proofs.Apart.{status_number-apart}
use Rattle.nq_wire.proofs.laws.numbers_apart.Goals as goal

pub returns-clause-procedures : goal.returns-clause-procedures
returns-clause-procedures c = number_of-apart

pub returns-clause-statuses : goal.returns-clause-statuses
returns-clause-statuses c = status_number-apart
