use Rattle.nq_loop.proofs.SomeServed.{served-rows-are-met}
use Rattle.nq_loop.proofs.hosts.served.serving.served_rows_are_met.Goals as goal

pub returns : goal.returns
returns c = served-rows-are-met
