use Rattle.nq_wire.proofs.Apart.{requests_apart, one_request}
use Rattle.nq_wire.proofs.laws.requests_apart.Goals as goal

pub returns-clause-begins : goal.returns-clause-begins
returns-clause-begins c = requests_apart

pub returns-clause-one : goal.returns-clause-one
returns-clause-one c = one_request
