-- There is a schedule after which a client holds a lease that runs: the premises of the law are met.
use Rattle.std.specs.Prelude.{◌&&◌, ℕ, Bool, true, false, List, Option, None, Some, IsTrue, nat_lt, slice_get}
use Rattle.nq_base.specs.declared.Event.{Event}
use Rattle.nq_model.specs.protocol.Client.{Client, Lease, lease_on}
use Rattle.nq_model.specs.protocol.Server.{Phase, serving, recovering}
use Rattle.nq_model.specs.protocol.Skew.{IsWithinSkew}
use Rattle.nq_model.specs.protocol.Table.{caches}
use Rattle.nq_model.specs.protocol.World.{Head, run}
use Rattle.nq_model.specs.laws.Bounds.{KeepsBounds}

-- whether a lease is a caching one, and runs by the client's clock
abbrev pub lease_runs : Client → Option Lease → Bool
lease_runs c None = false
lease_runs c (Some lease) = caches lease.mode && nat_lt c.now lease.expiry

-- whether there is a client that holds a caching lease on the file which runs by its clock
abbrev pub holds_running : (file : ℕ) → Option Client → Bool
holds_running file None = false
holds_running file (Some c) = lease_runs c (lease_on file c.leases)

-- the premises are met, and not in vain: after some schedule a client holds a caching lease that runs
pub record IsMet : Type 0 where
  pub most : ℕ
  pub head : Head
  pub events : List Event
  pub host : ℕ
  pub file : ℕ
  pub bounds : KeepsBounds most head events
  pub within : IsWithinSkew head.hosts most events
  pub holds : IsTrue (holds_running file (slice_get (run head events).clients host))

-- whether the server recovers
abbrev pub is_recovering : Phase → Bool
is_recovering serving = false
is_recovering (recovering until heard last) = true

-- and after some schedule a client holds such a lease while the server recovers
pub record IsMetInRecovery : Type 0 where
  pub most : ℕ
  pub head : Head
  pub events : List Event
  pub host : ℕ
  pub file : ℕ
  pub bounds : KeepsBounds most head events
  pub within : IsWithinSkew head.hosts most events
  pub holds : IsTrue (holds_running file (slice_get (run head events).clients host))
  pub recovers : IsTrue (is_recovering (run head events).server.phase)
