-- The run: one server, its clients, all packets ever sent, and the journal. Each event changes one host.
use Rattle.std.specs.Prelude.{ℕ, ◌+◌, ◌-◌, List, [], ◌∷◌, ◌++◌, Option, Some, None, map, length, slice_get, slice_set, replicate, zero, suc}
use Rattle.nq_base.specs.declared.Entry.{Entry}
use Rattle.nq_base.specs.declared.Event.{Event}
use Rattle.nq_base.specs.declared.HostRow.{HostRow}
use Rattle.nq_base.specs.declared.Party.{Party}
use Rattle.nq_base.specs.declared.Verdict.{Verdict}
use Rattle.nq_model.specs.protocol.Client.{Client, ClientStep}
use Rattle.nq_model.specs.protocol.ClientStep.{client_call, client_tick, attached_client, restart}
use Rattle.nq_model.specs.protocol.Hear.{hear}
use Rattle.nq_model.specs.protocol.Kept.{File, Kept, new_file, fresh_row}
use Rattle.nq_model.specs.protocol.Message.{Message, Packet, datagram_of}
use Rattle.nq_model.specs.protocol.Profile.{most_hosts}
use Rattle.nq_model.specs.protocol.Server.{Server, ServerStep}
use Rattle.nq_model.specs.protocol.ServerStep.{receive, tick, crash, boot}

-- what a run begins with: so many hosts, the term that clients want, the longest term that the server grants, and
-- files with their lengths
pub record Head : Type 0 where
  pub hosts : ℕ
  pub term : ℕ
  pub longest : ℕ
  pub files : List (List ℕ × ℕ)

-- the server, the clients by host, the packets in the order in which they were sent, and the journal with the newest
-- entry first
pub record World : Type 0 where
  pub server : Server
  pub clients : List Client
  pub packets : List Packet
  pub journal : List Entry

-- the packet of a client to the server
abbrev pub from_host : ℕ → Message → Packet
from_host host message = record { sender = Party.Client host; to = Party.Server; message = message }

-- the world after a step of the server
unfoldable pub after_server : World → ServerStep → World
after_server w t = record w {
  server = t.server;
  packets = w.packets ++ t.sends;
  journal = t.entries ++ w.journal;
}

-- the world after a step of a host's client
unfoldable pub after_client : World → (host : ℕ) → ClientStep → World
after_client w host t = record w {
  clients = slice_set w.clients host t.client;
  packets = w.packets ++ map (from_host host) t.sends;
  journal = t.entries ++ w.journal;
}

-- a step of a host's client, if there is such a host
abbrev pub at_client : World → (host : ℕ) → (Client → ClientStep) → Option Client → World
at_client w host step None = w
at_client w host step (Some c) = after_client w host (step c)

-- a datagram that a client ignores changes nothing
abbrev pub after_hearing : World → (host : ℕ) → Option ClientStep → World
after_hearing w host None = w
after_hearing w host (Some t) = after_client w host t

-- the host that sent a packet; the server sends none to itself
abbrev pub sending_host : Party → ℕ
sending_host Party.Server = most_hosts
sending_host (Party.Client host) = host

-- a packet is taken in by its receiver
abbrev pub deliver_to_client : World → (k host : ℕ) → Message → Option Client → World
deliver_to_client w k host message None = w
deliver_to_client w k host message (Some c) = after_hearing w host (hear c k message)

abbrev pub deliver_to : World → (k : ℕ) → Packet → Party → World
deliver_to w k p Party.Server =
    after_server w (receive w.server (sending_host p.sender) (length w.packets) (datagram_of p.message))
deliver_to w k p (Party.Client host) = deliver_to_client w k host p.message (slice_get w.clients host)

-- the packet of this number is taken in, if it was sent
abbrev pub deliver : World → (k : ℕ) → Option Packet → World
deliver w k None = w
deliver w k (Some p) = deliver_to w k p p.to

-- one event
abbrev pub step : World → Event → World
step w (Event.Call host op) = at_client w host (λ c. client_call c op) (slice_get w.clients host)
step w (Event.Deliver k) = deliver w k (slice_get w.packets k)
step w Event.ServerTick = after_server w (tick w.server (w.server.now + 1))
step w (Event.ClientTick host) = at_client w host (λ c. client_tick c (c.now + 1)) (slice_get w.clients host)
step w (Event.Restart host) = at_client w host restart (slice_get w.clients host)
step w (Event.Crash longest) = after_server w (crash w.server longest)

-- files that are there from the start, with ids from this one on
abbrev pub first_files : (id : ℕ) → List (List ℕ × ℕ) → List File
first_files id [] = []
first_files id (f ∷ files) = new_file id f.0 f.1 ∷ first_files (id + 1) files

-- the row of a host whose first incarnation is attached
abbrev pub first_row : HostRow
first_row = record { inc = 1; seq = 0; verdict = Verdict.Done; value = 0 }

-- what the first boot finds: the files, and a row for each of the 64 hosts
abbrev pub first_kept : Head → Kept
first_kept head = record {
  files = first_files 1 head.files;
  hosts = replicate head.hosts first_row ++ replicate (most_hosts - head.hosts) fresh_row;
  boot = 0;
  opened = 0;
  longest = head.longest;
  next = length head.files + 1;
}

-- the clients of so many hosts, from this host on
abbrev pub first_clients : (term host : ℕ) → (count : ℕ) → List Client
first_clients term host zero = []
first_clients term host (suc count) =
    attached_client (record { host = host; inc = 1 }) term 0 ∷ first_clients term (host + 1) count

-- the world at the start: the server serves its first boot, and each client is attached
unfoldable pub start : Head → World
start head = record {
  server = boot (first_kept head) head.longest 0 None;
  clients = first_clients head.term 0 head.hosts;
  packets = [];
  journal = [];
}

-- the world after a schedule, which is told with its newest event first
abbrev pub run : Head → List Event → World
run head [] = start head
run head (event ∷ earlier) = step (run head earlier) event

-- the world after further events, which are told with the oldest first
abbrev pub steps : World → List Event → World
steps w [] = w
steps w (event ∷ later) = steps (step w event) later
