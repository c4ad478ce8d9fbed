use Rattle.nq_loop.proofs.ToldAnswers.{answered-loops-tell-answers}
use Rattle.nq_loop.proofs.hosts.loops.answered_loops_tell_answers.Goals as goal

pub returns : goal.returns
returns c = answered-loops-tell-answers
