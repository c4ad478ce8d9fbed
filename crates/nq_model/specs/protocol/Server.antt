-- The server's state, and what a step of it gives.
use Rattle.std.specs.Prelude.{ℕ, ◌+◌, ◌%◌, List, [], ◌∷◌, Option, Some, None}
use Rattle.nq_base.specs.declared.Entry.{Entry}
use Rattle.nq_base.specs.declared.Party.{Party}
use Rattle.nq_base.specs.declared.Refusal.{Refusal}
use Rattle.nq_base.specs.declared.Reply.{Reply}
use Rattle.nq_base.specs.declared.Request.{Request}
use Rattle.nq_base.specs.declared.Row.{Row}
use Rattle.nq_base.specs.declared.Who.{Who}
use Rattle.nq_model.specs.protocol.Kept.{Kept}
use Rattle.nq_model.specs.protocol.Message.{Message, Packet, Reason, call, reply}
use Rattle.nq_model.specs.protocol.Profile.{xid_end}
use Rattle.nq_model.specs.protocol.Table.{Table, empty_table}

-- a boot serves, or it recovers: until a time at the earliest, after a write was last heard, and with the table with
-- which the last boot served in mind, on which no answer rests (Macklem 1994, recovery by waiting). A server that boots
-- over a disk knows no such table
pub data Phase : Type 0 where
  serving : Phase
  recovering : (until heard : ℕ) (last : Option Table) → Phase

-- the server: what it keeps, its phase, its lease table, the longest term of this boot, the number of its next
-- notice, and its time
pub record Server : Type 0 where
  pub kept : Kept
  pub phase : Phase
  pub table : Table
  pub longest : ℕ
  pub notice : ℕ
  pub now : ℕ

-- how a datagram was taken
pub data Outcome : Type 0 where
  taken : Outcome
  dropped : Reason → Outcome

-- a step of the server: the state after it, what it sends in order, its entries with the newest first, and how a
-- datagram was taken
pub record ServerStep : Type 0 where
  pub server : Server
  pub sends : List Packet
  pub entries : List Entry
  pub outcome : Outcome

-- the table that stands in for the last one where none is known: an empty one, of boot 0
abbrev pub no_table : Table
no_table = empty_table 0

-- the last table, or the one that stands in for it
abbrev pub last_table : Option Table → Table
last_table None = no_table
last_table (Some table) = table

-- the table with which a boot served last, if one is known: that of the boot, or while it recovers the one that it has
-- in mind
abbrev pub last_in : Phase → Table → Option Table
last_in serving table = Some table
last_in (recovering until heard last) table = last

-- the table that stands: that of the boot, or while it recovers that of the last boot that served
abbrev pub standing_in : Phase → Table → Table
standing_in phase table = last_table (last_in phase table)

abbrev pub standing : Server → Table
standing s = standing_in s.phase s.table

-- a packet of the server to a host
abbrev pub to_host : ℕ → Message → Packet
to_host host message = record { sender = Party.Server; to = Party.Client host; message = message }

-- a step that changes nothing and says nothing
unfoldable pub quiet : Server → ServerStep
quiet s = record { server = s; sends = []; entries = []; outcome = taken }

-- a datagram is dropped
unfoldable pub drops : Server → Reason → ServerStep
drops s reason = record { server = s; sends = []; entries = []; outcome = dropped reason }

-- a message to a host, and nothing else
unfoldable pub says : Server → (host : ℕ) → Message → ServerStep
says s host message = record { server = s; sends = to_host host message ∷ []; entries = []; outcome = taken }

-- a reply to a host, and nothing else
abbrev pub replies : Server → (host xid : ℕ) → Reply → ServerStep
replies s host xid r = says s host (reply xid r)

-- a refusal of a request of this incarnation
abbrev pub refuses : Server → Who → (xid : ℕ) → Refusal → ServerStep
refuses s who xid status = replies s who.host xid (Reply.Refused who.inc status)

-- notices for these rows, each to its holder with its latest tag; their numbers begin here and wrap
abbrev pub notices : (xid : ℕ) → List Row → List Packet
notices xid [] = []
notices xid (row ∷ rows) =
    to_host row.who.host (call xid (Request.Evicted row.who row.file row.tag)) ∷ notices ((xid + 1) % xid_end) rows

-- the server after so many notices, with this table
unfoldable pub after_notices : Server → Table → (sent : ℕ) → Server
after_notices s table sent = record s { table = table; notice = (s.notice + sent) % xid_end }

-- the server with this kept state
unfoldable pub keeping : Server → Kept → Server
keeping s kept = record s { kept = kept }

-- the server with this kept state and table
unfoldable pub keeping_with : Server → Kept → Table → Server
keeping_with s kept table = record s { kept = kept; table = table }

-- the server with this table
unfoldable pub with_table : Server → Table → Server
with_table s table = record s { table = table }
