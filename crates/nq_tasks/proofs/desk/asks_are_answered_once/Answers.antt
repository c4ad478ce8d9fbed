use Rattle.std.proofs.Common.{refl}
use Rattle.nq_tasks.proofs.desk.asks_are_answered_once.Goals as goal

pub returns : goal.returns
returns c = λ desk work reply is of. rw (is, of.place, of.number) refl
