-- There is a schedule after which a client can read a block at once: the premises of the laws are met.
use Rattle.std.specs.Prelude.{◌≡◌, ℕ, List, Some, slice_get}
use Rattle.nq_base.specs.declared.Event.{Event}
use Rattle.nq_model.specs.protocol.Client.{Client, Lease}
use Rattle.nq_model.specs.protocol.World.{Head, run}
use Rattle.nq_model.specs.laws.CachedAtOnce.{HasCached}

-- the premises are met: after some schedule a client is ready to read a block that it has
pub record IsReadySometime : Type 0 where
  pub head : Head
  pub events : List Event
  pub host : ℕ
  pub client : Client
  pub file : ℕ
  pub block : ℕ
  pub lease : Lease
  pub body : List ℕ
  pub there : slice_get (run head events).clients host ≡ Some client
  pub ready : HasCached client file block lease body
