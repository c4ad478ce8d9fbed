use Rattle.std.proofs.Common.{refl}
use Rattle.story_run.proofs.scenes.play.Goals as goal

pub ran-requires-clause-tells : goal.ran-requires-clause-tells
ran-requires-clause-tells c = λ makes. (_, refl)
