use Rattle.nq_model.proofs.LossTests.{tells_excused}
use Rattle.nq_model.proofs.journals.excused_test_is_exact.Goals as goal

pub returns : goal.returns
returns c = tells_excused
