-- Each loss is excused, in every run: a client loses delayed writes only after its writing lease has ended, late enough
-- (Macklem 1994).
use Rattle.std.specs.Prelude.{◌≡◌, ◌⊎◌, ℕ, true, false, List, Some, slice_get}
use Rattle.nq_base.specs.declared.Entry.{Entry}
use Rattle.nq_base.specs.declared.Entry.TheVariants.{L}
use Rattle.nq_base.specs.declared.Event.{Event}
use Rattle.nq_base.specs.declared.Push.{Push}
use Rattle.nq_base.specs.declared.Row.{Row}
use Rattle.nq_base.specs.declared.Who.{Who}
use Rattle.nq_model.specs.laws.Bounds.{KeepsBounds, InEveryRun}
use Rattle.nq_model.specs.protocol.Client.{Client, Lease, is_clean, lease_on}
use Rattle.nq_model.specs.laws.CutOff.{EndsFirst, IsExcused}
use Rattle.nq_model.specs.protocol.Server.{standing}
use Rattle.nq_model.specs.protocol.Skew.{IsWithinSkew}
use Rattle.nq_model.specs.protocol.Table.{is_writing, find_row, tag_below}
use Rattle.nq_model.specs.protocol.World.{Head, World, run}

-- after every schedule that is within skew over the longest term of all boots, whatever packets were lost, repeated or
-- reordered, whoever restarted, and however often the server crashed, each loss of the journal is excused
abbrev pub LossesAreExcused : Type 0
LossesAreExcused = InEveryRun (λ head events. IsExcused (run head events).journal)

-- these delayed writes are at a client: in its list, or under way
pub data IsUnsaved (c : Client) (p : Push) : Type 0 where
  listed : (place : ℕ) → slice_get c.dirty place ≡ Some p → IsUnsaved c p
  under_way : c.push ≡ Some p → IsUnsaved c p

-- a file is bound at a client. The client holds it for writing, and its own row stands and lets it write. The row's chain
-- began no later than the tag that the client holds, and the row's tag is no earlier than that. While the server recovers,
-- the row stands in the table with which the last boot served
pub record IsBoundAt (w : World) (c : Client) (file : ℕ) : Type 0 where
  pub lease : Lease
  pub held : lease_on file c.leases ≡ Some lease
  pub for_writing : is_writing lease.mode ≡ true
  pub row : Row
  pub stands : find_row file c.who.host (standing w.server).rows ≡ Some row
  pub holder : row.who ≡ c.who
  pub lets_write : is_writing row.mode ≡ true
  pub began : tag_below lease.tag row.since ≡ false
  pub goes_on : tag_below row.tag lease.tag ≡ false

-- the loss of these delayed writes would be excused: going back in the journal, an entry that ends their lease comes before
-- the first of them
abbrev pub IsExcusedLoss : (journal : List Entry) → Who → Push → Type 0
IsExcusedLoss journal who p = EndsFirst (L who p.file p.block p.first p.last) who p.file journal

-- after every such schedule, a file of which a client has delayed writes is bound at that client, or the loss of each of
-- these writes would be excused
abbrev pub UnsavedFilesAreBoundOrExcused : Type 0
UnsavedFilesAreBoundOrExcused =
    (most : ℕ) (head : Head) (events : List Event) (host : ℕ) (c : Client) (file : ℕ)
    → KeepsBounds most head events
    → IsWithinSkew head.hosts most events
    → slice_get (run head events).clients host ≡ Some c
    → is_clean c file ≡ false
    → IsBoundAt (run head events) c file
    ⊎ ((p : Push) → IsUnsaved c p → p.file ≡ file → IsExcusedLoss (run head events).journal c.who p)
