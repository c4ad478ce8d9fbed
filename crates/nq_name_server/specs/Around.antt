-- What stands around an inner world as the code keeps it, and the world with leased directories that it shows.
use Rattle.std.specs.Prelude.{◌≡◌, ℕ, ◌+◌, Bool, true, false, List, [], ◌∷◌, ◌++◌, Option, Some, None, drop, slice_set}
use Rattle.nq_base.specs.declared.Event.{Event}
use Rattle.nq_base.specs.declared.Party.{Party}
use Rattle.nq_datagrams.specs.Messages.{bytes_of}
use Rattle.nq_model.specs.protocol.Message.{Packet}
use Rattle.nq_model.specs.protocol.World.{World}
use Rattle.nq_directory.specs.Asking.{Asks}
use Rattle.nq_directory.specs.NameCacheNames.{Names}
use Rattle.nq_name_server.specs.Sending.{all_sent}
use Rattle.nq_name_server.specs.Served.{Served}
use Rattle.nq_name_server.specs.Serving.{Serves}
use Rattle.nq_link.specs.Packets.{Datagram}
use Rattle.nq_name_server.specs.Outer.{Outer, Outside}
use Rattle.nq_name_server.specs.Outside.{beside, sends, sends_all}

-- the leases on directories, the names by host, what travels with the oldest first, who sends what is due, the datagrams that go out
-- next, and how many packets of the inner world have gone out
pub record AroundOver : Type 0 where
  pub served : Served
  pub sides : List Names
  pub sent : List Outer
  pub sender : Party
  pub due : List (Party × List ℕ)
  pub gone : ℕ

-- a datagram as it travels outside
abbrev pub outer_of : Datagram → Option ℕ → Outer
outer_of d is = record { sender = d.sender; to = d.to; bytes = d.bytes; is = is }

-- a packet of the inner world, as a datagram
abbrev pub datagram : Packet → Datagram
datagram p = record { sender = p.sender; to = p.to; bytes = bytes_of p.message }

-- what travels, as a datagram
abbrev pub datagram_of : Outer → Datagram
datagram_of p = record { sender = p.sender; to = p.to; bytes = p.bytes }

-- datagrams with the inner packets that they are
abbrev pub travelling : List Datagram → List (Option ℕ) → List Outer
travelling [] inner = []
travelling (d ∷ ds) [] = []
travelling (d ∷ ds) (i ∷ inner) = outer_of d i ∷ travelling ds inner

-- nothing travels at first
abbrev pub new_around : Served → List Names → AroundOver
new_around served sides = record { served = served; sides = sides; sent = []; sender = Party.Server; due = []; gone = 0 }

-- ---- what it shows

-- around this inner world, which ran these events, without what is still to go out
abbrev pub over : World → List Event → AroundOver → Outside
over w ran a = record { world = w; served = a.served; sides = a.sides; sent = a.sent; ran = ran }

-- what is due goes out
abbrev pub with_due : (from : Party) → List (Party × List ℕ) → Outside → Outside
with_due from [] o = o
with_due from (d ∷ ds) o = with_due from ds (sends o (beside from d.0 d.1))

-- the same, once what is due has gone out
abbrev pub once_sent : World → List Event → AroundOver → Outside
once_sent w ran a = with_due a.sender a.due (over w ran a)

-- the same, once all that the inner world sent has gone out as well
abbrev pub shown : World → List Event → AroundOver → Outside
shown w ran a = sends_all (once_sent w ran a) a.gone (drop a.gone w.packets)

-- ---- going out

-- the next datagram that is due goes out, if there is one
abbrev pub flushed_as : List (Party × List ℕ) → AroundOver → AroundOver
flushed_as [] a = a
flushed_as (d ∷ ds) a = record a { sent = a.sent ++ beside a.sender d.0 d.1 ∷ []; due = ds }

abbrev pub flushed_one : AroundOver → AroundOver
flushed_one a = flushed_as a.due a

-- the next packet of the inner world goes out
abbrev pub sent_one : AroundOver → Datagram → AroundOver
sent_one a d = record a { sent = a.sent ++ outer_of d (Some a.gone) ∷ []; gone = a.gone + 1 }

-- ---- taking in

-- what a host sends to the server, if it sends anything
abbrev pub to_server : Option (List ℕ) → List (Party × List ℕ)
to_server None = []
to_server (Some bytes) = (Party.Server, bytes) ∷ []

-- the host at a place came to keep these names, and sends a datagram, if there is one
pub record IsAsked (old new : List Names) (place : ℕ) (sent : Option (List ℕ)) (asks : Asks) : Type 0 where
  pub keeps : new ≡ slice_set old place asks.names
  pub sends : sent ≡ asks.sends

-- a host keeps these names, and what it sends is due
abbrev pub asked_as : AroundOver → (host : ℕ) → Asks → AroundOver
asked_as a host asks =
    record a { sides = slice_set a.sides host asks.names; sender = Party.Client host; due = to_server asks.sends }

-- the server keeps these leases, and what it sends is due
abbrev pub served_by : AroundOver → Serves → AroundOver
served_by a s = record a { served = s.served; sender = Party.Server; due = all_sent s.sends }

-- a request was held up, or it was not and nothing was done
abbrev pub IsHeldUp : (held : Bool) → Option Serves → (old new : AroundOver) → Type 0
IsHeldUp true (Some s) old new = new ≡ served_by old s
IsHeldUp true None old new = ⊥
IsHeldUp false (Some s) old new = ⊥
IsHeldUp false None old new = new ≡ old
