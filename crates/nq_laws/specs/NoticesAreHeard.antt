-- A notice that names a row as it stands is not ignored by its holder.
use Rattle.std.specs.Prelude.{◌≡◌, ◌<◌, ℕ, true, Some, slice_get}
use Rattle.nq_base.specs.declared.Request.{Request}
use Rattle.nq_base.specs.declared.Row.{Row}
use Rattle.nq_model.specs.laws.Bounds.{InEveryRun}
use Rattle.nq_model.specs.protocol.Client.{Client, ClientStep, Lease, lease_on}
use Rattle.nq_model.specs.protocol.Hear.{hear}
use Rattle.nq_model.specs.protocol.Message.{call}
use Rattle.nq_model.specs.protocol.Server.{serving}
use Rattle.nq_model.specs.protocol.Table.{caches, find_row}
use Rattle.nq_model.specs.protocol.World.{run}

-- a lease that lets its holder cache, and runs by his clock
pub record RunsOn (now : ℕ) (l : Lease) : Type 0 where
  pub caching : caches l.mode ≡ true
  pub live : now < l.expiry

-- in every run, while the server serves: a client that is attached does not ignore a notice that names its row of a file with the row's latest
-- tag, where it holds no lease on the file, or one that lets it cache and runs
abbrev pub NoticesAreHeard : Type 0
NoticesAreHeard =
    InEveryRun (λ head events.
    (host file k xid : ℕ) (c : Client) (row : Row)
    → (run head events).server.phase ≡ serving
    → slice_get (run head events).clients host ≡ Some c
    → c.attached ≡ true
    → find_row file host (run head events).server.table.rows ≡ Some row
    → ((l : Lease) → lease_on file c.leases ≡ Some l → RunsOn c.now l)
    → (t : ClientStep) × (hear c k (call xid (Request.Evicted row.who file row.tag)) ≡ Some t))
