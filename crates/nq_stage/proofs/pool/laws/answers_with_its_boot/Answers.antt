use Rattle.nq_stage.proofs.Newest.{answers-with-its-boot}
use Rattle.nq_stage.proofs.pool.laws.answers_with_its_boot.Goals as goal

pub returns : goal.returns
returns c = answers-with-its-boot
