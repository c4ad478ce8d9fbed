use Rattle.std.proofs.Common.{inl, inr, refl}
use Rattle.nq_loop.proofs.Ends.{limited-tells}
use Rattle.nq_loop.proofs.running.tell_stop.Goals as goal

pub returns-in-Limit-clause-tells : goal.returns-in-Limit-clause-tells
returns-in-Limit-clause-tells g c = rw c.in-Limit.is (limited-tells c.tell_limit.result c.in-Limit.limit _ _ _ _ c.tell_limit.ensures.tells)

pub returns-in-Link-clause-tells : goal.returns-in-Link-clause-tells
returns-in-Link-clause-tells g c = rw c.in-Link.is (inl (refl, refl, refl, refl))

pub returns-in-Keep-clause-tells : goal.returns-in-Keep-clause-tells
returns-in-Keep-clause-tells g c = rw c.in-Keep.is (inr (inl (refl, refl, refl, refl)))

pub returns-in-Memory-clause-tells : goal.returns-in-Memory-clause-tells
returns-in-Memory-clause-tells g c = rw c.in-Memory.is (inr (inr (inr (refl, tt, refl))))
