use Rattle.std.proofs.Common.{◌≡◌, ◌∷◌, [], ◌++◌, add-one, arith}
use Rattle.nq_clock.specs.Counts.{no_counts}
use Rattle.nq_clock.proofs.CountLists.{replicate-end}
use Rattle.nq_clock.proofs.skew.new_hosts.Goals as goal

pub loop-preserved : goal.loop-preserved
loop-preserved c =
    let pushed : c.push.new.self.items ≡ c.loop.hosts.items ++ c.in_ok-new.field-0 ∷ [] = rw c.unwrap.ensures at c.push.ensures.items in
    let before = c.loop.invariant.0 in
    let none : c.in_ok-new.field-0 ≡ no_counts = c.in_ok-new.ensures in
    let more = replicate-end c.loop.counter no_counts in
    (rw add-one (cc), omega (arith, c.push.ensures.capacity, c.loop.invariant.1))
