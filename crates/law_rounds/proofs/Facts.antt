-- What is used of each run: of its rows, its packets and its clients.
use Rattle.std.proofs.Common.{◌≡◌, ◌≤◌, ◌<◌, ◌⊎◌, ℕ, ◌+◌, Bool, true, false, List, [], ◌∷◌, Option, Some, None, length}
use Rattle.std.specs.List.{find}
use Rattle.std.specs.Prelude.{slice_get}
use Rattle.nq_base.specs.declared.Event.{Event}
use Rattle.nq_base.specs.declared.Party.{Party}
use Rattle.nq_base.specs.declared.Question.{Question}
use Rattle.nq_base.specs.declared.Request.{Request}
use Rattle.nq_base.specs.declared.Row.{Row}
use Rattle.nq_base.specs.declared.Tag.{Tag}
use Rattle.nq_base.specs.declared.Want.{Want}
use Rattle.nq_base.specs.declared.Who.{Who}
use Rattle.nq_model.specs.protocol.Ask.{ask}
use Rattle.nq_model.specs.protocol.Client.{Client, ClientStep, Job, attaching, for_call, renewing, pushing, Ticket}
use Rattle.nq_model.specs.protocol.Hear.{hear, wants_of}
use Rattle.nq_model.specs.protocol.Message.{Message, Packet, call, datagram_of}
use Rattle.nq_model.specs.protocol.Profile.{most_hosts, most_rows}
use Rattle.nq_model.specs.protocol.Server.{to_host}
use Rattle.nq_model.specs.protocol.ServerStep.{receive}
use Rattle.nq_model.specs.protocol.Table.{Table, caches, find_row}
use Rattle.nq_model.specs.protocol.World.{World, from_host, sending_host, step}
use Rattle.nq_model.specs.laws.RowsStandApart.{AreOfKeptIncarnations, WritesAlone}
use Rattle.walk_steps.proofs.Packets.{In}
use Rattle.walk_steps.proofs.Worlds.{Holds}

-- what a client asks for its call
abbrev pub asked_by : Job → Request → Option Request
asked_by for_call r = Some r
asked_by attaching r = None
asked_by renewing r = None
asked_by pushing r = None

abbrev pub asked_for : Option Ticket → Option Request
asked_for None = None
asked_for (Some t) = asked_by t.job t.request

-- whether a request wants a lease on a file
abbrev pub wants_in : (file : ℕ) → Option Request → Bool
wants_in file None = false
wants_in file (Some r) = wants_of file r

-- what comes of what a client hears: it has fewer turns left; or it heard a notice that cancels its request, and gave the lease up and sent
-- the request again; or a notice that does not, and gave a lease up, or did nothing
pub data Takes (turns : Client → ℕ) (c : Client) (m : Message) (t : ClientStep) : Type 0 where
  fewer : turns t.client < turns c → Takes turns c m t
  again :
      (x file : ℕ) (tag : Tag) (r : Request)
      → m ≡ call x (Request.Evicted c.who file tag)
      → asked_for c.ticket ≡ Some r
      → wants_of file r ≡ true
      → t.sends ≡ call c.xid (Request.Vacated c.who file tag) ∷ call (c.xid + 1) r ∷ []
      → asked_for t.client.ticket ≡ Some r
      → turns t.client ≤ turns c
      → Takes turns c m t
  silent :
      (x file : ℕ) (tag : Tag)
      → m ≡ call x (Request.Evicted c.who file tag)
      → wants_in file (asked_for c.ticket) ≡ false
      → asked_for t.client.ticket ≡ asked_for c.ticket
      → (t.sends ≡ []) ⊎ (t.sends ≡ call c.xid (Request.Vacated c.who file tag) ∷ [])
      → turns t.client ≤ turns c
      → Takes turns c m t

-- the row that a notice names is there, and is to go
pub record IsNamed (rows : List Row) (host file : ℕ) (who : Who) (tag : Tag) : Type 0 where
  pub row : Row
  pub there : find_row file host rows ≡ Some row
  pub holder : row.who ≡ who
  pub latest : row.tag ≡ tag

pub record Facts (hosts few : ℕ) (turns : Client → ℕ) (w : World) : Type 0 where
  pub holds : Holds w
  pub count : length w.clients ≡ hosts
  pub hosts_most : hosts ≤ most_hosts
  pub noticed : (k host x file : ℕ) (who : Who) (tag : Tag) (row : Row) → slice_get w.packets k
      ≡ Some (to_host host (call x (Request.Evicted who file tag))) → find_row file host w.server.table.rows ≡ Some row → row.tag ≡ tag → row.evicting ≡ true
  pub vacated : (k host x file : ℕ) (who : Who) (tag : Tag) (row : Row) → slice_get w.packets k
      ≡ Some (from_host host (call x (Request.Vacated who file tag))) → find_row file host w.server.table.rows ≡ Some row → row.tag ≡ tag → row.evicting ≡ true
  pub going : (file host : ℕ) (row : Row) → find_row file host w.server.table.rows ≡ Some row → row.evicting ≡ true → caches row.mode ≡ true
  pub current : AreOfKeptIncarnations w.server.kept w.server.table.rows
  pub alone : WritesAlone w.server.table.rows
  pub members : (test : Row → Bool) (row : Row) → find test w.server.table.rows ≡ Some row → find_row row.file row.who.host w.server.table.rows ≡ Some row
  pub few_rows : length w.server.table.rows ≤ most_rows
  pub few_sent : (k : ℕ) → length (step w (Event.Deliver k)).packets ≤ length w.packets + few
  pub takes : (host k : ℕ) (c : Client) (m : Message) (t : ClientStep) → slice_get w.clients host ≡ Some c → slice_get w.packets k
      ≡ Some (to_host host m) → hear c k m ≡ Some t → Takes turns c m t
  pub marks : (k : ℕ) (p q : Packet) → slice_get w.packets k ≡ Some p → p.to ≡ Party.Server
      → In (receive w.server (sending_host p.sender) (length w.packets) (datagram_of p.message)).sends q → (host x file : ℕ) (who : Who) (tag : Tag)
      → q ≡ to_host host (call x (Request.Evicted who file tag)) → IsNamed (receive w.server (sending_host p.sender) (length w.packets)
      (datagram_of p.message)).server.table.rows host file who tag

-- whoever asks has a row, where there is room
abbrev pub AskersHaveRows : Type 0
AskersHaveRows = (table : Table) (q : Question) (want : Want) → q.want ≡ Some want → length table.rows < most_rows → (row : Row)
    × (find_row q.file q.who.host (ask table q).table.rows ≡ Some row)
