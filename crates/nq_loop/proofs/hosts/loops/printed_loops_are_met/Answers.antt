use Rattle.nq_loop.proofs.SomePrinted.{printed-loops-are-met}
use Rattle.nq_loop.proofs.hosts.loops.printed_loops_are_met.Goals as goal

pub returns : goal.returns
returns c = printed-loops-are-met
