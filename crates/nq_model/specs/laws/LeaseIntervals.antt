-- While a lease runs, the server has a row that fits it and ends later, in every run (Gray and Cheriton 1989; Macklem
-- 1994).
use Rattle.nq_model.specs.laws.LeaseInterval.{KeepsLeaseInterval}
use Rattle.nq_model.specs.protocol.World.{run}
use Rattle.nq_model.specs.laws.Bounds.{InEveryRun}

-- so it is after every schedule that is within skew over the longest term of all boots, whatever packets were lost,
-- repeated or reordered, whoever restarted, and however often the server crashed. Let a client hold a caching lease that
-- runs by its own clock. Then the server has a row that fits the lease and that ends later by the server's clock. While the
-- server recovers, such a row stands in its last table, and the recovery does not end before it
abbrev pub LeaseIntervalInEveryRun : Type 0
LeaseIntervalInEveryRun = InEveryRun (λ head events. KeepsLeaseInterval (run head events) events)
