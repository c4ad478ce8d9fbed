use Rattle.nq_model.proofs.LossTests.{tells_accounted}
use Rattle.nq_model.proofs.journals.accounted_test_is_exact.Goals as goal

pub returns : goal.returns
returns c = tells_accounted
