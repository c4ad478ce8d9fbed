use Rattle.nq_loop.proofs.SomeLoop.{loops-are-met}
use Rattle.nq_loop.proofs.hosts.loops.loops_are_met.Goals as goal

pub returns : goal.returns
returns c = loops-are-met
