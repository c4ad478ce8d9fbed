use Rattle.nq_loop.proofs.PrintedLoops.{printed-loops-are-answered}
use Rattle.nq_loop.proofs.hosts.loops.printed_loops_are_answered.Goals as goal

pub returns : goal.returns
returns c = printed-loops-are-answered
