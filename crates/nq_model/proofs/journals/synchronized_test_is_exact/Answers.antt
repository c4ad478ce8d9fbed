use Rattle.nq_model.proofs.SynchronizedTest.{tells_synchronized}
use Rattle.nq_model.proofs.journals.synchronized_test_is_exact.Goals as goal

pub returns : goal.returns
returns c = tells_synchronized
