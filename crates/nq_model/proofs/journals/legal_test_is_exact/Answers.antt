use Rattle.nq_model.proofs.LegalTest.{tells_legal}
use Rattle.nq_model.proofs.journals.legal_test_is_exact.Goals as goal

pub returns : goal.returns
returns c = tells_legal
