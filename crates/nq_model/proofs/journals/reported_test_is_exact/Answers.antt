use Rattle.nq_model.proofs.LossTests.{tells_reported}
use Rattle.nq_model.proofs.journals.reported_test_is_exact.Goals as goal

pub returns : goal.returns
returns c = tells_reported
