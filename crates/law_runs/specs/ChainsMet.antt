-- There is a schedule that leads to chained leases: the premises of the law are met.
use Rattle.std.specs.Prelude.{◌≡◌, ℕ, true, List, ◌++◌, Some, slice_get}
use Rattle.nq_base.specs.declared.Event.{Event}
use Rattle.nq_base.specs.declared.Grant.{Grant}
use Rattle.nq_base.specs.declared.Row.{Row}
use Rattle.nq_model.specs.laws.Chained.{IsChained, has_done_write}
use Rattle.nq_model.specs.laws.Bounds.{KeepsBounds}
use Rattle.nq_model.specs.protocol.Client.{Client, Lease, Ticket, lease_on}
use Rattle.nq_model.specs.protocol.Kept.{host_row}
use Rattle.nq_model.specs.laws.LeaseInterval.{CanTake}
use Rattle.nq_model.specs.protocol.Server.{standing}
use Rattle.nq_model.specs.protocol.Skew.{IsWithinSkew}
use Rattle.nq_model.specs.protocol.Table.{caches}
use Rattle.nq_model.specs.protocol.World.{Head, World, run}

-- a client holds a caching lease that is chained, while its own write was done and it was not told yet
pub record IsHeldDone (w : World) (host : ℕ) : Type 0 where
  pub client : Client
  pub lease : Lease
  pub row : Row
  pub there : slice_get w.clients host ≡ Some client
  pub held : lease_on lease.file client.leases ≡ Some lease
  pub caching : caches lease.mode ≡ true
  pub chained : IsChained (standing w.server) client.who lease.file lease.tag row
  pub done : has_done_write (host_row w.server.kept host) client.who.inc lease.file client.ticket ≡ true

-- a client can take a caching grant that is chained
pub record IsGivenChained (w : World) (host : ℕ) : Type 0 where
  pub client : Client
  pub ticket : Ticket
  pub file : ℕ
  pub grant : Grant
  pub row : Row
  pub there : slice_get w.clients host ≡ Some client
  pub takeable : CanTake w host client ticket file grant
  pub caching : caches grant.mode ≡ true
  pub chained : IsChained (standing w.server) client.who file grant.tag row

-- the premises are met, and not in vain: after some schedule a client can take a chained grant, and after more events it holds
-- the chained lease over a write of its own that was done
pub record ChainsAreMet : Type 0 where
  pub most : ℕ
  pub head : Head
  pub earlier : List Event
  pub later : List Event
  pub host : ℕ
  pub bounds_earlier : KeepsBounds most head earlier
  pub within_earlier : IsWithinSkew head.hosts most earlier
  pub given : IsGivenChained (run head earlier) host
  pub bounds : KeepsBounds most head (later ++ earlier)
  pub within : IsWithinSkew head.hosts most (later ++ earlier)
  pub held : IsHeldDone (run head (later ++ earlier)) host
