-- The server draws the tags of leases in order, in every run, and what a client gave up is past (Macklem 1994).
use Rattle.std.specs.Prelude.{◌≡◌, ◌≤◌, ◌<◌, ◌⊎◌, ℕ, true, List, ◌++◌, Some, slice_get}
use Rattle.nq_base.specs.declared.Event.{Event}
use Rattle.nq_base.specs.declared.Grant.{Grant}
use Rattle.nq_base.specs.declared.Party.{Party}
use Rattle.nq_base.specs.declared.Reply.{Reply}
use Rattle.nq_base.specs.declared.Request.{Request}
use Rattle.nq_base.specs.declared.Row.{Row}
use Rattle.nq_base.specs.declared.Tag.{Tag}
use Rattle.nq_base.specs.declared.Who.{Who}
use Rattle.nq_model.specs.protocol.Client.{Client, Lease, Notice, Ticket, lease_on, notice_on}
use Rattle.nq_model.specs.laws.LeaseInterval.{grant_in, CanTake}
use Rattle.nq_model.specs.protocol.Message.{Packet, call, reply}
use Rattle.nq_model.specs.protocol.Server.{standing}
use Rattle.nq_model.specs.protocol.Skew.{IsWithinSkew}
use Rattle.nq_model.specs.protocol.Table.{Table, find_row, next_tag, tag_below}
use Rattle.nq_model.specs.protocol.World.{Head, World, run}
use Rattle.nq_model.specs.laws.Bounds.{KeepsBounds}

-- a tag is known in a world. It is that of a lease that a client holds, or of a notice that waits. Or it was sent in a
-- VACATED, in an EVICTED, or in a grant, as its own tag or the first of its chain. Or a row that stands has it, as its
-- latest or first
pub data IsKnown (w : World) (tag : Tag) : Type 0 where
  of_lease : (host file : ℕ) (c : Client) (lease : Lease) → slice_get w.clients host ≡ Some c → lease_on file c.leases ≡ Some lease → lease.tag ≡ tag
      → IsKnown w tag
  of_notice : (host file : ℕ) (c : Client) (n : Notice) → slice_get w.clients host ≡ Some c → notice_on file c.notices ≡ Some n → n.tag ≡ tag → IsKnown w tag
  of_vacated : (k : ℕ) (p : Packet) (xid : ℕ) (who : Who) (file : ℕ) → slice_get w.packets k ≡ Some p → p.message
      ≡ call xid (Request.Vacated who file tag) → IsKnown w tag
  of_evicted : (k : ℕ) (p : Packet) (xid : ℕ) (who : Who) (file : ℕ) → slice_get w.packets k ≡ Some p → p.message
      ≡ call xid (Request.Evicted who file tag) → IsKnown w tag
  of_grant : (k : ℕ) (p : Packet) (xid : ℕ) (answer : Reply) (g : Grant) → slice_get w.packets k ≡ Some p → p.message ≡ reply xid answer
      → grant_in answer ≡ Some g → g.tag ≡ tag → IsKnown w tag
  of_grant_chain : (k : ℕ) (p : Packet) (xid : ℕ) (answer : Reply) (g : Grant) → slice_get w.packets k ≡ Some p → p.message ≡ reply xid answer
      → grant_in answer ≡ Some g → g.since ≡ tag → IsKnown w tag
  of_row : (file host : ℕ) (row : Row) → find_row file host (standing w.server).rows ≡ Some row → row.tag ≡ tag → IsKnown w tag
  of_chain : (file host : ℕ) (row : Row) → find_row file host (standing w.server).rows ≡ Some row → row.since ≡ tag → IsKnown w tag

-- a tag was drawn: at some moment of the run the table of the boot that it names stood, and the tag was among those that
-- this table had drawn. They are numbered from 1 on
pub record WasDrawn (head : Head) (events : List Event) (tag : Tag) : Type 0 where
  pub later : List Event
  pub earlier : List Event
  pub moment : events ≡ later ++ earlier
  pub by_boot : (standing (run head earlier).server).boot ≡ tag.boot
  pub counted : 1 ≤ tag.number
  pub among : tag.number ≤ (standing (run head earlier).server).drawn

-- a tag is not later than the table that stands: an earlier boot drew it, or this table has drawn it already
abbrev pub IsUpTo : Table → Tag → Type 0
IsUpTo table tag = (tag.boot < table.boot) ⊎ ((tag.boot ≡ table.boot) × (tag.number ≤ table.drawn))

-- the boot that a tag names has drawn it. That boot is not later than the one whose table stands. The tag is below each tag
-- that the server draws next, now or after any further events
pub record IsTagInOrder (head : Head) (events : List Event) (tag : Tag) : Type 0 where
  pub drawn : WasDrawn head events tag
  pub up_to_now : IsUpTo (standing (run head events).server) tag
  pub below_next : (later : List Event) → tag_below tag (next_tag (run head (later ++ events)).server.table) ≡ true

-- after every schedule that is within skew over the longest term of all boots, whatever packets were lost, repeated or
-- reordered, whoever restarted, and however often the server crashed, each tag that is known was drawn in order
abbrev pub TagsAreDrawnInOrder : Type 0
TagsAreDrawnInOrder =
    (most : ℕ) (head : Head) (events : List Event) (tag : Tag)
    → KeepsBounds most head events
    → IsWithinSkew head.hosts most events
    → IsKnown (run head events) tag
    → IsTagInOrder head events tag

-- a table is not earlier than another: it is of a later boot, or it is of the same boot and has drawn no fewer tags
abbrev pub IsNoEarlier : (before after : Table) → Type 0
IsNoEarlier before after = (before.boot < after.boot) ⊎ ((before.boot ≡ after.boot) × (before.drawn ≤ after.drawn))

-- whatever happens, the boot of the table that stands only rises, and within one boot the number of its tags only rises
abbrev pub StandingTableGrows : Type 0
StandingTableGrows =
    (head : Head) (later events : List Event)
    → IsNoEarlier (standing (run head events).server) (standing (run head (later ++ events)).server)

-- the running incarnation of a host's client gave up the lease with this tag on a file: it sent VACATED
pub record GaveUp (w : World) (host : ℕ) (c : Client) (file : ℕ) (tag : Tag) : Type 0 where
  pub k : ℕ
  pub packet : Packet
  pub xid : ℕ
  pub who : Who
  pub sent : slice_get w.packets k ≡ Some packet
  pub by : packet.sender ≡ Party.Client host
  pub says : packet.message ≡ call xid (Request.Vacated who file tag)
  pub running : who.inc ≡ c.who.inc

-- a tag is past for a client. It is below the tag of the lease that the client holds on the file, and below that of each
-- grant on the file that it can still take. It is below each tag that the server draws next, now or after any further
-- events
pub record IsPast (head : Head) (events : List Event) (host : ℕ) (c : Client) (file : ℕ) (tag : Tag) : Type 0 where
  pub held : (lease : Lease) → lease_on file c.leases ≡ Some lease → tag_below tag lease.tag ≡ true
  pub takeable : (ticket : Ticket) (g : Grant) → CanTake (run head events) host c ticket file g → tag_below tag g.tag ≡ true
  pub below_next : (later : List Event) → tag_below tag (next_tag (run head (later ++ events)).server.table) ≡ true

-- after every such schedule, what a client gave up is past: the client neither holds it nor can take it, and the server
-- never draws it again
abbrev pub VacatedTagsArePast : Type 0
VacatedTagsArePast =
    (most : ℕ) (head : Head) (events : List Event) (host : ℕ) (c : Client) (file : ℕ) (tag : Tag)
    → KeepsBounds most head events
    → IsWithinSkew head.hosts most events
    → slice_get (run head events).clients host ≡ Some c
    → GaveUp (run head events) host c file tag
    → IsPast head events host c file tag
