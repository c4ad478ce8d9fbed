-- The step of a world with staged writes, and the events of the inner world that it runs.
use Rattle.std.specs.Prelude.{ℕ, ◌+◌, List, [], ◌∷◌, ◌++◌, Option, Some, None, length, drop, slice_get, slice_set}
use Rattle.nq_base.specs.declared.Event.{Event}
use Rattle.nq_base.specs.declared.Party.{Party}
use Rattle.nq_datagrams.specs.Messages.{bytes_of}
use Rattle.nq_model.specs.protocol.Client.{Client}
use Rattle.nq_model.specs.protocol.Message.{Packet}
use Rattle.nq_model.specs.protocol.World.{Head, World, step}
use Rattle.nq_stage.specs.Answering.{Answer, write, unstaged, own_stage, own_commit, staged, answered}
use Rattle.nq_stage.specs.Bodies.{Bodies}
use Rattle.nq_stage.specs.declared.messages.Commit.{Commit}
use Rattle.nq_stage.specs.declared.messages.Pushed.{Pushed}
use Rattle.nq_stage.specs.declared.messages.Written.{Written}
use Rattle.nq_stage.specs.Reading.{Stage}
use Rattle.nq_stage.specs.Hearing.{Told, again, told_by, kept_by}
use Rattle.nq_stage.specs.Offering.{offer_of, offered}
use Rattle.nq_stage.specs.Shortening.{shortening, shortened}
use Rattle.nq_stage.specs.Staged.{Staged, new_stager}
use Rattle.nq_stage.specs.declared.run.event.StagedEvent.{StagedEvent}
use Rattle.nq_stage.specs.Outer.{Outer, Side, Outside, new_pool, outside_start}

-- ---- sending

-- a packet more travels
unfoldable pub sends : Outside → Outer → Outside
sends o p = record o { sent = o.sent ++ p ∷ [] }

-- a packet that stands for none
abbrev pub beside : (sender to : Party) → (bytes : List ℕ) → Outer
beside sender to bytes = record { sender = sender; to = to; bytes = bytes; stands = None }

-- a packet that stands for the inner packet of this number
abbrev pub standing : (number : ℕ) → (sender to : Party) → (bytes : List ℕ) → Outer
standing number sender to bytes = record { sender = sender; to = to; bytes = bytes; stands = Some number }

-- an inner packet goes as it is
abbrev pub sends_whole : Outside → (number : ℕ) → Packet → Outside
sends_whole o number p = sends o (standing number p.sender p.to (bytes_of p.message))

-- a side that shortened the inner packet of this number
abbrev pub side_of : (number : ℕ) → Staged → Side
side_of number stager = record { stager = stager; last = Some number }

-- an inner packet goes as the COMMIT to which its host's side shortened it, and the side keeps it
abbrev pub sends_short : Outside → (number host : ℕ) → Packet → List ℕ × Staged → Outside
sends_short o number host p short =
    sends (record o { sides = slice_set o.sides host (side_of number short.1) }) (standing number p.sender p.to short.0)

-- by whether the side shortens it
abbrev pub sends_as : Outside → (number host : ℕ) → Packet → Side → Option (Pushed × ℕ) → Outside
sends_as o number host p side None = sends_whole o number p
sends_as o number host p side (Some push) =
    sends_short o number host p (shortened side.stager push.0 push.1 (bytes_of p.message))

-- by the side of the host that sent it
abbrev pub sends_by : Outside → (number host : ℕ) → Packet → Option Side → Outside
sends_by o number host p None = sends_whole o number p
sends_by o number host p (Some side) = sends_as o number host p side (shortening side.stager (bytes_of p.message))

-- an inner packet makes one that stands for it: a host's is first given to that host's side
abbrev pub sends_from : Outside → (number : ℕ) → Packet → Party → Outside
sends_from o number p Party.Server = sends_whole o number p
sends_from o number p (Party.Client host) = sends_by o number host p (slice_get o.sides host)

-- inner packets, the first of which has this number
abbrev pub sends_all : Outside → (number : ℕ) → List Packet → Outside
sends_all o number [] = o
sends_all o number (p ∷ ps) = sends_all (sends_from o number p p.sender) (number + 1) ps

-- ---- inner events

-- a client's side begins anew
abbrev pub new_side : Option Client → List Side → (host : ℕ) → List Side
new_side None sides host = sides
new_side (Some c) sides host = slice_set sides host (record { stager = new_stager c.who; last = None })

-- an inner event was run: a crash makes a new pool for the new boot, a restart a new stager for the new incarnation
abbrev pub renewed : Outside → Event → World → Outside
renewed o (Event.Crash longest) w = record o { world = w; pool = new_pool w; ran = Event.Crash longest ∷ o.ran }
renewed o (Event.Restart host) w =
    record o { world = w; sides = new_side (slice_get w.clients host) o.sides host; ran = Event.Restart host ∷ o.ran }
renewed o event w = record o { world = w; ran = event ∷ o.ran }

-- what the inner world sent in it goes out
abbrev pub after_inner : Outside → Event → World → Outside
after_inner o event w = sends_all (renewed o event w) (length o.world.packets) (drop (length o.world.packets) w.packets)

-- an inner event is run
abbrev pub inner : Outside → Event → Outside
inner o event = after_inner o event (step o.world event)

-- the delivery of a packet that stands for this one is the delivery of that one; one that stands for none is no inner event
abbrev pub inner_delivery : Outside → Option ℕ → Outside
inner_delivery o None = o
inner_delivery o (Some number) = inner o (Event.Deliver number)

-- ---- deliveries to the server

-- a STAGE is given to the pool, and the reply goes out
unfoldable pub takes_stage : Outside → (host : ℕ) → List ℕ × Bodies → Outside
takes_stage o host given =
    sends (record o { pool = given.1; counts = record o.counts { staged = o.counts.staged + 1 } }) (beside Party.Server (Party.Client host) given.0)

-- a COMMIT is given to the pool: where its body is there it is the delivery of the inner packet, else the reply goes out
abbrev pub takes_commit : Outside → (host : ℕ) → Option ℕ → Answer → Outside
takes_commit o host stands (write bytes) = inner_delivery (record o { counts = record o.counts { commits = o.counts.commits + 1 } }) stands
takes_commit o host stands (unstaged bytes) =
    sends (record o { counts = record o.counts { unstaged = o.counts.unstaged + 1 } }) (beside Party.Server (Party.Client host) bytes)

-- by whether it is a COMMIT
abbrev pub served_commit : Outside → (host : ℕ) → Outer → Option Commit → Outside
served_commit o host p None = inner_delivery o p.stands
served_commit o host p (Some c) = takes_commit o host p.stands (answered o.pool c)

-- by whether it is a STAGE
abbrev pub served_stage : Outside → (host : ℕ) → Outer → Option Stage → Outside
served_stage o host p None = served_commit o host p (own_commit host p.bytes)
served_stage o host p (Some s) = takes_stage o host (staged o.pool s)

-- a packet from a host comes to the server
abbrev pub to_server : Outside → Outer → Party → Outside
to_server o p Party.Server = inner_delivery o p.stands
to_server o p (Party.Client host) = served_stage o host p (own_stage host p.bytes)

-- ---- deliveries to a host

-- the WRITE goes out whole, and stands for the inner packet that this host's side shortened last
abbrev pub sends_again : Outside → (host : ℕ) → (bytes : List ℕ) → Option ℕ → Outside
sends_again o host bytes last = sends o (record { sender = Party.Client host; to = Party.Server; bytes = bytes; stands = last })

-- the side keeps what it was told; an UNSTAGED makes it send the WRITE
abbrev pub told_side : Outside → (host : ℕ) → Side → Told → Outside
told_side o host side (again bytes) =
    sends_again (record o { sides = slice_set o.sides host (record side { stager = kept_by side.stager (again bytes) }) }) host bytes side.last
told_side o host side told = record o { sides = slice_set o.sides host (record side { stager = kept_by side.stager told }) }

-- a packet that stands for none is given to the host's side
abbrev pub heard_by : Outside → (host : ℕ) → Outer → Option Side → Outside
heard_by o host p None = o
heard_by o host p (Some side) = told_side o host side (told_by side.stager p.bytes)

-- a packet comes to a host: one that stands for an inner packet is that one's delivery
abbrev pub to_host : Outside → (host : ℕ) → Outer → Option ℕ → Outside
to_host o host p (Some number) = inner o (Event.Deliver number)
to_host o host p None = heard_by o host p (slice_get o.sides host)

-- ---- one event

-- a packet is taken in by its receiver
abbrev pub takes : Outside → Outer → Party → Outside
takes o p Party.Server = to_server o p p.sender
takes o p (Party.Client host) = to_host o host p p.stands

-- the packet of this number is taken in, if it was sent
abbrev pub delivers : Outside → Option Outer → Outside
delivers o None = o
delivers o (Some p) = takes o p p.to

-- an offer goes out as a STAGE
unfoldable pub sends_stage : Outside → (host : ℕ) → Side → List ℕ × Staged → Outside
sends_stage o host side given =
    sends (record o { sides = slice_set o.sides host (record side { stager = given.1 }) }) (beside (Party.Client host) Party.Server given.0)

-- by whether there is something to offer
abbrev pub offers_body : Outside → (host : ℕ) → Side → Option (Written × List ℕ) → Outside
offers_body o host side None = o
offers_body o host side (Some b) = sends_stage o host side (offered side.stager b.0 b.1)

-- a host's side offers a body of its client's delayed writes, which stay as they are
abbrev pub offers : Outside → (host : ℕ) → Option Side → Option Client → Outside
offers o host (Some side) (Some c) = offers_body o host side (offer_of side.stager c.dirty c.push)
offers o host side c = o

-- one event. A delivery speaks of the packets that travel here; an offer is no event of the inner world, and all else is one
abbrev pub outside_step : Outside → StagedEvent → Outside
outside_step o (StagedEvent.Stage host) = offers o host (slice_get o.sides host) (slice_get o.world.clients host)
outside_step o (StagedEvent.Plain (Event.Deliver number)) = delivers o (slice_get o.sent number)
outside_step o (StagedEvent.Plain event) = inner o event

-- the world after a staged schedule, which is told with its newest event first
abbrev pub outside_run : Head → List StagedEvent → Outside
outside_run head [] = outside_start head
outside_run head (event ∷ earlier) = outside_step (outside_run head earlier) event
