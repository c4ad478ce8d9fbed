-- The holder of a chained lease knows the kept revision of the file, in every run (Macklem 1994).
use Rattle.std.specs.Prelude.{◌≡◌, ℕ, true, false, Some, slice_get}
use Rattle.nq_base.specs.declared.Grant.{Grant}
use Rattle.nq_base.specs.declared.Row.{Row}
use Rattle.nq_model.specs.laws.Chained.{IsChained, has_done_write, KnowsFile}
use Rattle.nq_model.specs.laws.Bounds.{InEveryRun}
use Rattle.nq_model.specs.protocol.Client.{Client, Lease, Ticket, Revision, lease_on, revision_of}
use Rattle.nq_model.specs.protocol.Kept.{host_row}
use Rattle.nq_model.specs.laws.LeaseInterval.{CanTake}
use Rattle.nq_model.specs.protocol.Server.{standing}
use Rattle.nq_model.specs.protocol.Table.{caches}
use Rattle.nq_model.specs.protocol.World.{World, run}

-- the client knows a revision of the file, and the server keeps the file at the one that follows from it, with the length
-- that the lease has
pub record KnowsHeld (w : World) (host : ℕ) (c : Client) (lease : Lease) (row : Row) : Type 0 where
  pub revision : Revision
  pub known : revision_of lease.file c.revisions ≡ Some revision
  pub knows : KnowsFile w.server.kept (host_row w.server.kept host) row.mode lease.mode lease.file revision.rev lease.blocks
      (has_done_write (host_row w.server.kept host) c.who.inc lease.file c.ticket)

-- so it is with each caching lease that a client holds and that is chained, whether the lease runs or not
abbrev pub HeldKnow : World → Type 0
HeldKnow w =
    (host : ℕ) (c : Client) (lease : Lease) (row : Row)
    → slice_get w.clients host ≡ Some c
    → lease_on lease.file c.leases ≡ Some lease
    → caches lease.mode ≡ true
    → IsChained (standing w.server) c.who lease.file lease.tag row
    → KnowsHeld w host c lease row

-- each caching grant that a client can still take and that is chained tells the kept revision and length
abbrev pub TakeableKnow : World → Type 0
TakeableKnow w =
    (host : ℕ) (c : Client) (ticket : Ticket) (file : ℕ) (g : Grant) (row : Row)
    → slice_get w.clients host ≡ Some c
    → CanTake w host c ticket file g
    → caches g.mode ≡ true
    → IsChained (standing w.server) c.who file g.tag row
    → KnowsFile w.server.kept (host_row w.server.kept host) row.mode g.mode file g.rev g.blocks false

-- both hold in a world
pub record ChainsKnow (w : World) : Type 0 where
  pub held : HeldKnow w
  pub takeable : TakeableKnow w

-- both hold after every schedule that is within skew over the longest term of all boots, whatever packets were lost,
-- repeated or reordered, whoever restarted, and however often the server crashed
abbrev pub ChainedLeasesKnowTheFile : Type 0
ChainedLeasesKnowTheFile = InEveryRun (λ head events. ChainsKnow (run head events))
