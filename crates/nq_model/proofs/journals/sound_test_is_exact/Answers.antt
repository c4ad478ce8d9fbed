use Rattle.nq_model.proofs.SoundTest.{tells_sound}
use Rattle.nq_model.proofs.journals.sound_test_is_exact.Goals as goal

pub returns : goal.returns
returns c = tells_sound
