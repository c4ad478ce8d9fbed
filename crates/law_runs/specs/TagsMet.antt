-- There is a schedule after which a client gave up a tag: the premises of the laws are met.
use Rattle.std.specs.Prelude.{◌≡◌, ℕ, List, Some, slice_get}
use Rattle.nq_base.specs.declared.Event.{Event}
use Rattle.nq_base.specs.declared.Grant.{Grant}
use Rattle.nq_base.specs.declared.Tag.{Tag}
use Rattle.nq_model.specs.protocol.Client.{Client, Lease, Ticket, lease_on}
use Rattle.nq_model.specs.laws.LeaseInterval.{CanTake}
use Rattle.nq_model.specs.protocol.Skew.{IsWithinSkew}
use Rattle.nq_model.specs.protocol.World.{Head, run}
use Rattle.nq_model.specs.laws.Bounds.{KeepsBounds}
use Rattle.nq_model.specs.laws.TagsAreInOrder.{GaveUp}

-- the premises are met, and not in vain: after some schedule a client gave up a tag on a file, holds a lease on it again,
-- and can take a further grant on it
pub record IsPastSometime : Type 0 where
  pub most : ℕ
  pub head : Head
  pub events : List Event
  pub host : ℕ
  pub client : Client
  pub file : ℕ
  pub tag : Tag
  pub lease : Lease
  pub ticket : Ticket
  pub grant : Grant
  pub bounds : KeepsBounds most head events
  pub within : IsWithinSkew head.hosts most events
  pub there : slice_get (run head events).clients host ≡ Some client
  pub gave : GaveUp (run head events) host client file tag
  pub held : lease_on file client.leases ≡ Some lease
  pub takeable : CanTake (run head events) host client ticket file grant
