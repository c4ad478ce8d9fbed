use Rattle.nq_model.proofs.OrderedTest.{tells_ordered}
use Rattle.nq_model.proofs.journals.ordered_test_is_exact.Goals as goal

pub returns : goal.returns
returns c = tells_ordered
