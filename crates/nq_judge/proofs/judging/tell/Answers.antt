use Rattle.nq_judge.proofs.Judgements.{tells_front, tells_yes}
use Rattle.nq_judge.proofs.judging.tell.Goals as goal

pub returns-in-All-clause-tells : goal.returns-in-All-clause-tells
returns-in-All-clause-tells g c = tells_yes c.args.judged _ _ _ _ c.in-Yes.is c.in-All.ensures.puts

pub returns-in-Failed-clause-tells : goal.returns-in-Failed-clause-tells
returns-in-Failed-clause-tells g c = tells_front c.args.judged _ _ _ _ c.in-Yes.is c.in-Failed.ensures.puts c.in-Failed.ensures.cause
