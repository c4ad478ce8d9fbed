use Rattle.nq_loop.proofs.PrintedLoops.{ended-loops-are-answered}
use Rattle.nq_loop.proofs.hosts.loops.ended_loops_are_answered.Goals as goal

pub returns : goal.returns
returns c = ended-loops-are-answered
