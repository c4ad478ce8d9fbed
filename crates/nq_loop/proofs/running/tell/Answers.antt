use Rattle.std.proofs.Common.{inl, inr}
use Rattle.nq_loop.proofs.running.tell.Goals as goal

pub returns-in-Ok-clause-tells : goal.returns-in-Ok-clause-tells
returns-in-Ok-clause-tells g c = rw c.in-Ok.is (inl (tt, c.print_loop.ensures.prints))

pub returns-in-Err-clause-tells : goal.returns-in-Err-clause-tells
returns-in-Err-clause-tells g c = rw c.in-Err.is (inr c.tell_stop.ensures.tells)
