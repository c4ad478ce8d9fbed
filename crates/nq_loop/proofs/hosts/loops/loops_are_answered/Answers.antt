use Rattle.nq_loop.proofs.LoopsLoops.{loops-are-answered}
use Rattle.nq_loop.proofs.hosts.loops.loops_are_answered.Goals as goal

pub returns : goal.returns
returns c = loops-are-answered
