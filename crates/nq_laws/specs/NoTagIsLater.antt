-- No lease, no notice and no VACATED names a later tag than the row for which it stands, so a client hears each notice that names its row.
use Rattle.std.specs.Prelude.{◌≡◌, ℕ, true, false, Some, slice_get}
use Rattle.nq_base.specs.declared.Request.{Request}
use Rattle.nq_base.specs.declared.Row.{Row}
use Rattle.nq_base.specs.declared.Tag.{Tag}
use Rattle.nq_base.specs.declared.Who.{Who}
use Rattle.nq_model.specs.protocol.Client.{Client, ClientStep, Lease, Notice, lease_on, notice_on}
use Rattle.nq_model.specs.protocol.Hear.{hear}
use Rattle.nq_model.specs.protocol.Message.{call}
use Rattle.nq_model.specs.protocol.Server.{serving, to_host}
use Rattle.nq_model.specs.protocol.Table.{find_row, tag_below}
use Rattle.nq_model.specs.protocol.World.{World, from_host, run}
use Rattle.nq_model.specs.laws.Bounds.{InEveryRun}

-- what a host's client has and was told of a file, and what it gave up: its lease, whether it runs or not, the notice that waits, each notice that was
-- ever sent to it, and each VACATED that it ever sent. None of these has a later tag than this one
pub record NoneIsLater (w : World) (host file : ℕ) (c : Client) (tag : Tag) : Type 0 where
  pub leased : (l : Lease) → lease_on file c.leases ≡ Some l → tag_below tag l.tag ≡ false
  pub noticed : (n : Notice) → notice_on file c.notices ≡ Some n → tag_below tag n.tag ≡ false
  pub told : (k xid : ℕ) (who : Who) (named : Tag) → slice_get w.packets k ≡ Some (to_host host (call xid (Request.Evicted who file named)))
      → tag_below tag named ≡ false
  pub given_up : (k xid : ℕ) (who : Who) (named : Tag) → slice_get w.packets k ≡ Some (from_host host (call xid (Request.Vacated who file named)))
      → tag_below tag named ≡ false

-- in every run: so it is with the latest tag of the host's row of the file, where there is one
abbrev pub NoTagIsLater : Type 0
NoTagIsLater =
    InEveryRun (λ head events.
    (host file : ℕ) (c : Client) (row : Row)
    → slice_get (run head events).clients host ≡ Some c
    → find_row file host (run head events).server.table.rows ≡ Some row
    → NoneIsLater (run head events) host file c row.tag)

-- in every run, while the server serves: a client that is attached does not ignore a notice that names its row of a file with the row's latest
-- tag, whatever lease it holds
abbrev pub RowNoticesAreHeard : Type 0
RowNoticesAreHeard =
    InEveryRun (λ head events.
    (host file k xid : ℕ) (c : Client) (row : Row)
    → (run head events).server.phase ≡ serving
    → slice_get (run head events).clients host ≡ Some c
    → c.attached ≡ true
    → find_row file host (run head events).server.table.rows ≡ Some row
    → (t : ClientStep) × (hear c k (call xid (Request.Evicted row.who file row.tag)) ≡ Some t))
