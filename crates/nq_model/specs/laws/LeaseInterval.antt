-- The lease interval: while a lease runs by its holder's clock, the server has a row that fits it, and the row ends
-- later by the server's clock, however the clocks are skewed (Gray and Cheriton 1989, by Macklem's durations).
use Rattle.std.specs.Prelude.{◌≡◌, ◌≤◌, ◌<◌, ℕ, ◌+◌, ◌-◌, Bool, true, false, List, [], ◌∷◌, Option, Some, None, nat_le, slice_get, if◌then◌else◌}
use Rattle.nq_base.specs.declared.Event.{Event}
use Rattle.nq_base.specs.declared.Grant.{Grant}
use Rattle.nq_base.specs.declared.Mode.{Mode}
use Rattle.nq_base.specs.declared.Mode.TheVariants.{NonCaching, Reading, Writing}
use Rattle.nq_base.specs.declared.Party.{Party}
use Rattle.nq_base.specs.declared.Reply.{Reply}
use Rattle.nq_base.specs.declared.Request.{Request}
use Rattle.nq_base.specs.declared.Row.{Row}
use Rattle.nq_base.specs.declared.Tag.{Tag}
use Rattle.nq_base.specs.declared.Who.{Who}
use Rattle.nq_model.specs.protocol.Client.{Lease, Ticket, Client, lease_on}
use Rattle.nq_model.specs.protocol.Hear.{is_reply_to}
use Rattle.nq_model.specs.protocol.Message.{Packet, reply}
use Rattle.nq_model.specs.protocol.Profile.{skew}
use Rattle.nq_model.specs.protocol.Server.{Phase, serving, recovering, last_table, Server}
use Rattle.nq_model.specs.protocol.Skew.{server_ticks, ticks_of}
use Rattle.nq_model.specs.protocol.Table.{Table, caches, is_writing, tag_below, find_row}
use Rattle.nq_model.specs.protocol.World.{World}

-- the server's time at the moment at which a host's clock came to a time; the schedule is told with its newest event
-- first
abbrev pub server_time_when : (host time : ℕ) → List Event → ℕ
server_time_when host time [] = 0
server_time_when host time (e ∷ earlier) =
    if nat_le time (ticks_of host earlier)
    then server_time_when host time earlier
    else server_ticks (e ∷ earlier)

-- whether a kind of lease lets its holder do all that another lets him do
abbrev pub is_at_least : Mode → Mode → Bool
is_at_least mode NonCaching = true
is_at_least mode Reading = caches mode
is_at_least mode Writing = is_writing mode

-- what a lease claims: whose it is, on which file, of which kind, with which tag, and until which time of the server's clock
pub record Claim : Type 0 where
  pub who : Who
  pub file : ℕ
  pub mode : Mode
  pub tag : Tag
  pub until : ℕ

-- the claim of an incarnation to a file, with a kind and a tag, until a time
abbrev pub claim_of : Who → (file : ℕ) → Mode → Tag → (until : ℕ) → Claim
claim_of who file mode tag until = record { who = who; file = file; mode = mode; tag = tag; until = until }

-- a tag is no later than another
abbrev pub IsAtMost : (earlier later : Tag) → Type 0
IsAtMost earlier later = tag_below later earlier ≡ false

-- a row fits a claim: it is of that incarnation and file, of at least that kind, its chain began no later and goes on no
-- earlier than the tag, and it ends no earlier
pub record IsFitting (c : Claim) (row : Row) : Type 0 where
  pub holder : row.who ≡ c.who
  pub of_file : row.file ≡ c.file
  pub kind : is_at_least row.mode c.mode ≡ true
  pub began : IsAtMost row.since c.tag
  pub goes_on : IsAtMost c.tag row.tag
  pub ends : c.until ≤ row.until

-- a table has a row that fits a claim
pub record HasFitting (c : Claim) (table : Table) : Type 0 where
  pub row : Row
  pub stands : find_row c.file c.who.host table.rows ≡ Some row
  pub fits : IsFitting c row

-- while the server recovers: the claim is of the boot that served last, its row stands in the last table, and the
-- recovery does not end before it
pub record OutlivedBy (c : Claim) (opened end : ℕ) (last : Table) : Type 0 where
  pub of_last_boot : c.tag.boot ≡ opened
  pub fitting : HasFitting c last
  pub waits : c.until ≤ end

-- the server covers a claim
abbrev pub IsCovered : Server → Phase → Claim → Type 0
IsCovered s serving c = HasFitting c s.table
IsCovered s (recovering end heard last) c = OutlivedBy c s.kept.opened end (last_table last)

-- the time until which a lease is covered that was first asked for at this time of its holder's clock, with this term
abbrev pub cover_end : (host asked term : ℕ) → List Event → ℕ
cover_end host asked term events = server_time_when host asked events + term + skew

-- each caching lease that a client holds and that runs by its clock is covered
abbrev pub HeldAreCovered : World → List Event → Type 0
HeldAreCovered w events =
    (host : ℕ) (c : Client) (lease : Lease)
    → slice_get w.clients host ≡ Some c
    → lease_on lease.file c.leases ≡ Some lease
    → caches lease.mode ≡ true
    → c.now < lease.expiry
    → IsCovered w.server w.server.phase (claim_of c.who lease.file lease.mode lease.tag (cover_end host (lease.expiry - lease.term) lease.term events))

-- the grant of a reply to a request for a file, if there is one
abbrev pub grant_in : Reply → Option Grant
grant_in (Reply.Read inc rev body grant) = grant
grant_in (Reply.GetLease inc grant) = grant
grant_in other = None

-- the file for which a request may bring a lease
abbrev pub requested_file : Request → Option ℕ
requested_file (Request.Read who q file block want) = Some file
requested_file (Request.GetLease who file want) = Some file
requested_file other = None

-- a packet brings a client a grant that its request under way can take
pub record CanTake (w : World) (host : ℕ) (c : Client) (ticket : Ticket) (file : ℕ) (g : Grant) : Type 0 where
  pub k : ℕ
  pub packet : Packet
  pub xid : ℕ
  pub answer : Reply
  pub sent : slice_get w.packets k ≡ Some packet
  pub for_host : packet.to ≡ Party.Client host
  pub brings : packet.message ≡ reply xid answer
  pub asked : c.ticket ≡ Some ticket
  pub counts : is_reply_to c xid answer ticket ≡ true
  pub grants : grant_in answer ≡ Some g
  pub on_file : requested_file ticket.request ≡ Some file

-- each caching grant that a client can take is covered, while its clock is below the request's first sending plus the
-- term
abbrev pub TakeableAreCovered : World → List Event → Type 0
TakeableAreCovered w events =
    (host : ℕ) (c : Client) (ticket : Ticket) (file : ℕ) (g : Grant)
    → slice_get w.clients host ≡ Some c
    → CanTake w host c ticket file g
    → caches g.mode ≡ true
    → c.now < ticket.first + g.term
    → IsCovered w.server w.server.phase (claim_of c.who file g.mode g.tag (cover_end host ticket.first g.term events))

-- the lease interval
pub record KeepsLeaseInterval (w : World) (events : List Event) : Type 0 where
  pub held : HeldAreCovered w events
  pub takeable : TakeableAreCovered w events
