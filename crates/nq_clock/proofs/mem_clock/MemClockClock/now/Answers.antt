use Rattle.std.proofs.Common.{add-one, arith}
use Rattle.nq_clock.proofs.CountLists.{rising-later}
use Rattle.nq_clock.proofs.mem_clock.MemClockClock.now.Goals as goal

pub invariant_of-self : goal.invariant_of-self
invariant_of-self c = (omega (arith, c.len.ensures), rw add-one (rising-later 0 c.self.inside.place c.self.inside.readings.items c.self.invariant.1))
