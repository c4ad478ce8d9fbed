use Rattle.nq_model.proofs.SynchronizedTest.{tells_of_their_call}
use Rattle.nq_model.proofs.journals.of_their_call_test_is_exact.Goals as goal

pub returns : goal.returns
returns c = tells_of_their_call
