use Rattle.nq_model.proofs.SkewTest.{skew-test-is-sound}
use Rattle.nq_model.proofs.clocks.skew_test_is_sound.Goals as goal

pub returns : goal.returns
returns c = skew-test-is-sound
