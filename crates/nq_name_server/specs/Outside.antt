-- The step of a world with leased directories, and the events of the inner world that it runs.
use Rattle.std.specs.Prelude.{ℕ, ◌+◌, ◌==◌, ◌&&◌, not, Bool, true, false, List, [], ◌∷◌, ◌++◌, Option, Some, None, length, drop, slice_get, slice_set}
use Rattle.std.specs.Prelude.{if◌then◌else◌}
use Rattle.nq_base.specs.declared.Call.{Call}
use Rattle.nq_base.specs.declared.Event.{Event}
use Rattle.nq_base.specs.declared.Party.{Party}
use Rattle.nq_base.specs.declared.Request.{Request}
use Rattle.nq_base.specs.declared.Who.{Who}
use Rattle.nq_datagrams.specs.Incoming.{datagram_in}
use Rattle.nq_datagrams.specs.Messages.{bytes_of}
use Rattle.nq_directory.specs.Prefix.{directory}
use Rattle.nq_directory.specs.declared.listing.messages.DirTag.{DirTag}
use Rattle.nq_directory.specs.declared.listing.messages.ReadDir.{ReadDir}
use Rattle.nq_directory.specs.Reading.{read_dir_in, dir_vacated_in}
use Rattle.nq_model.specs.protocol.Client.{Client, UnderWay}
use Rattle.nq_model.specs.protocol.Kept.{File, Kept, find_file, host_row}
use Rattle.nq_model.specs.protocol.Message.{Datagram, Packet, request}
use Rattle.nq_model.specs.protocol.Server.{Phase, serving, recovering}
use Rattle.nq_model.specs.protocol.World.{Head, World, step}
use Rattle.nq_directory.specs.declared.name_cache.found.Found.{Found}
use Rattle.nq_directory.specs.Asking.{Asks, heard, lists_dir}
use Rattle.nq_directory.specs.NameCacheNames.{Names, before_call, finds, new_names}
use Rattle.nq_name_server.specs.Served.{leaf_behind}
use Rattle.nq_name_server.specs.Serving.{Serves, ToHost, holds_up, puts_off, reads_dir, ticks, vacates}
use Rattle.nq_name_server.specs.declared.run.event.NameEvent.{NameEvent}
use Rattle.nq_name_server.specs.Outer.{Outer, Outside, of_boot, outside_start}

-- ---- sending

-- a packet more travels
unfoldable pub sends : Outside → Outer → Outside
sends o p = record o { sent = o.sent ++ p ∷ [] }

-- a packet that is none of the inner world
abbrev pub beside : (sender to : Party) → (bytes : List ℕ) → Outer
beside sender to bytes = record { sender = sender; to = to; bytes = bytes; is = None }

-- a packet that is the inner packet of this number
abbrev pub inside : (number : ℕ) → Packet → Outer
inside number p = record { sender = p.sender; to = p.to; bytes = bytes_of p.message; is = Some number }

-- inner packets go as they are; the first of them has this number
abbrev pub sends_all : Outside → (number : ℕ) → List Packet → Outside
sends_all o number [] = o
sends_all o number (p ∷ ps) = sends_all (sends o (inside number p)) (number + 1) ps

-- datagrams of the server go out
abbrev pub sends_these : Outside → List ToHost → Outside
sends_these o [] = o
sends_these o (d ∷ ds) = sends_these (sends o (beside Party.Server (Party.Client d.host) d.bytes)) ds

-- the server keeps this of the leases on directories, and sends these datagrams
unfoldable pub served_as : Outside → Serves → Outside
served_as o s = sends_these (record o { served = s.served }) s.sends

-- a host's datagram goes out, if there is one
abbrev pub sends_from : Outside → (host : ℕ) → Option (List ℕ) → Outside
sends_from o host None = o
sends_from o host (Some bytes) = sends o (beside (Party.Client host) Party.Server bytes)

-- a host keeps these names, and sends a datagram, if there is one
unfoldable pub asks_as : Outside → (host : ℕ) → Asks → Outside
asks_as o host a = sends_from (record o { sides = slice_set o.sides host a.names }) host a.sends

-- ---- inner events

-- what a host keeps of names, changed
abbrev pub at_side : (Names → Names) → List Names → (host : ℕ) → Option Names → List Names
at_side f sides host None = sides
at_side f sides host (Some n) = slice_set sides host (f n)

-- a host that started again keeps no names
abbrev pub new_side : Option Client → List Names → (host : ℕ) → List Names
new_side None sides host = sides
new_side (Some c) sides host = slice_set sides host (new_names c.who)

-- an inner event was run: a crash begins with no leases on directories, a tick of the server's clock ends those that are over, a
-- restart forgets the host's names, and a call those that it is about to change
abbrev pub renewed : Outside → Event → World → Outside
renewed o (Event.Crash longest) w = record o { world = w; served = of_boot w; ran = Event.Crash longest ∷ o.ran }
renewed o Event.ServerTick w = record o { world = w; served = ticks o.served w.server.now; ran = Event.ServerTick ∷ o.ran }
renewed o (Event.Restart host) w =
    record o { world = w; sides = new_side (slice_get w.clients host) o.sides host; ran = Event.Restart host ∷ o.ran }
renewed o (Event.Call host op) w =
    record o { world = w; sides = at_side (λ n. before_call n op) o.sides host (slice_get o.sides host); ran = Event.Call host op ∷ o.ran }
renewed o event w = record o { world = w; ran = event ∷ o.ran }

-- what the inner world sent in it goes out
abbrev pub after_inner : Outside → Event → World → Outside
after_inner o event w = sends_all (renewed o event w) (length o.world.packets) (drop (length o.world.packets) w.packets)

-- an inner event is run
abbrev pub inner : Outside → Event → Outside
inner o event = after_inner o event (step o.world event)

-- ---- deliveries to the server

-- whose request changes a directory, and which
pub record Changes : Type 0 where
  pub who : Who
  pub prefix : List ℕ

-- the request of this incarnation changes the directory of a file, if that is kept
abbrev pub changes_of : Who → Option File → Option Changes
changes_of who None = None
changes_of who (Some f) = Some (record { who = who; prefix = directory f.name })

-- a request that changes a directory: a CREATE, or a REMOVE of a file that is kept
abbrev pub changes_by : Kept → Request → Option Changes
changes_by kept (Request.Create who seq name blocks) = Some (record { who = who; prefix = directory name })
changes_by kept (Request.Remove who seq q file) = changes_of who (find_file file kept.files)
changes_by kept other = None

-- it counts where it is of the host that sent it
abbrev pub own_changes : (host : ℕ) → Option Changes → Option Changes
own_changes host None = None
own_changes host (Some c) = if c.who.host == host then Some c else None

-- what a datagram from a host changes
abbrev pub changes_as : Kept → (host : ℕ) → Datagram → Option Changes
changes_as kept host (request xid r) = own_changes host (changes_by kept r)
changes_as kept host other = None

-- a request is held up, or goes to the server as the inner packet of this number
abbrev pub held_or : Outside → (number : ℕ) → Option Serves → Outside
held_or o number None = inner o (Event.Deliver number)
held_or o number (Some s) = served_as o s

abbrev pub passes : Outside → (number : ℕ) → Option Changes → Outside
passes o number None = inner o (Event.Deliver number)
passes o number (Some c) = held_or o number (holds_up o.served c.who c.prefix)

-- a READDIRLOOK of an attached incarnation: while the server recovers it is put off
abbrev pub reads_in : Outside → ReadDir → Phase → Outside
reads_in o r serving = served_as o (reads_dir o.served r (leaf_behind r.prefix r.after o.world.server.kept.files))
reads_in o r (recovering until heard last) = served_as o (record { served = o.served; sends = puts_off r ∷ [] })

-- one of another host or of an incarnation that is not attached is dropped
abbrev pub reads : Outside → (host : ℕ) → ReadDir → Outside
reads o host r =
    if r.who.host == host && r.who.inc == (host_row o.world.server.kept host).inc
    then reads_in o r o.world.server.phase
    else o

-- a DIRVACATED of the host that sent it
abbrev pub vacates_own : Outside → (host : ℕ) → DirTag → Outside
vacates_own o host t = if t.who.host == host then record o { served = vacates o.served t } else o

-- by whether it is a DIRVACATED
abbrev pub served_vacated : Outside → (host : ℕ) → Option DirTag → Outside
served_vacated o host None = o
served_vacated o host (Some t) = vacates_own o host t

-- by whether it is a READDIRLOOK
abbrev pub served_read : Outside → (host : ℕ) → (bytes : List ℕ) → Option ReadDir → Outside
served_read o host bytes None = served_vacated o host (dir_vacated_in bytes)
served_read o host bytes (Some r) = reads o host r

-- a packet from a host comes to the server
abbrev pub serves : Outside → (host : ℕ) → Outer → Option ℕ → Outside
serves o host p None = served_read o host p.bytes (read_dir_in p.bytes)
serves o host p (Some number) = passes o number (changes_as o.world.server.kept host (datagram_in p.bytes))

-- the server sends none to itself
abbrev pub to_server : Outside → Outer → Party → Outside
to_server o p Party.Server = o
to_server o p (Party.Client host) = serves o host p p.is

-- ---- deliveries to a host

-- a packet that is none of the inner world is given to the names that the host keeps
abbrev pub heard_by : Outside → (host : ℕ) → (bytes : List ℕ) → Option Names → Option Client → Outside
heard_by o host bytes (Some n) (Some c) = asks_as o host (heard n bytes c.term c.now)
heard_by o host bytes n c = o

-- a packet comes to a host: one that is an inner packet is that one's delivery
abbrev pub to_host : Outside → (host : ℕ) → Outer → Option ℕ → Outside
to_host o host p (Some number) = inner o (Event.Deliver number)
to_host o host p None = heard_by o host p.bytes (slice_get o.sides host) (slice_get o.world.clients host)

-- ---- one event

-- a packet is taken in by its receiver
abbrev pub takes : Outside → Outer → Party → Outside
takes o p Party.Server = to_server o p p.sender
takes o p (Party.Client host) = to_host o host p p.is

-- the packet of this number is taken in, if it was sent
abbrev pub delivers : Outside → Option Outer → Outside
delivers o None = o
delivers o (Some p) = takes o p p.to

-- whether a call changes a directory
abbrev pub is_change : Call → Bool
is_change (Call.Create name blocks) = true
is_change (Call.Remove file) = true
is_change other = false

-- whether a call that changes one is under way
abbrev pub is_changing : Option UnderWay → Bool
is_changing None = false
is_changing (Some u) = is_change u.call

-- a host asks for the list of a directory, where it is attached and no call that changes a directory is under way
abbrev pub lists : Outside → (host : ℕ) → (prefix : List ℕ) → Option Names → Option Client → Outside
lists o host prefix (Some n) (Some c) =
    if c.attached && not (is_changing c.call) then asks_as o host (lists_dir n prefix c.term c.now) else o
lists o host prefix n c = o

-- one event. A delivery speaks of the packets that travel here; a list is no event of the inner world, and all else is one
abbrev pub outside_step : Outside → NameEvent → Outside
outside_step o (NameEvent.List host prefix) = lists o host prefix (slice_get o.sides host) (slice_get o.world.clients host)
outside_step o (NameEvent.Plain (Event.Deliver number)) = delivers o (slice_get o.sent number)
outside_step o (NameEvent.Plain event) = inner o event

-- the world after a schedule with lists, which is told with its newest event first
abbrev pub outside_run : Head → List NameEvent → Outside
outside_run head [] = outside_start head
outside_run head (event ∷ earlier) = outside_step (outside_run head earlier) event

-- ---- finding

-- what a host knows of a name
abbrev pub found_by : (name : List ℕ) → Option Names → Option Client → Found
found_by name (Some n) (Some c) = finds n name c.now
found_by name n c = Found.Unknown

-- what the host of this number knows of a name
abbrev pub found : Outside → (host : ℕ) → (name : List ℕ) → Found
found o host name = found_by name (slice_get o.sides host) (slice_get o.world.clients host)
