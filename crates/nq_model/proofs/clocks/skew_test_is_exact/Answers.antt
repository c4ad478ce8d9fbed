use Rattle.nq_model.proofs.SkewNames.{tells-skew}
use Rattle.nq_model.proofs.clocks.skew_test_is_exact.Goals as goal

pub returns : goal.returns
returns c = tells-skew
