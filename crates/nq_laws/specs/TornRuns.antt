-- Runs that are torn: the server stops in the middle of an event, at any moment of it, and boots again over what is kept.
-- What the event changes is kept whole or not at all, so there are two cases. Where nothing of it is kept, the event did not
-- come: it sent nothing and told nothing, and the time is that before it. Where its change is kept, the event was done: it told
-- its entries, since an entry tells what was done, but none of its packets was sent. An event that changes nothing kept and is
-- torn may be taken either way.
use Rattle.std.specs.Prelude.{◌≡◌, ◌+◌, ◌-◌, ◌&&◌, ℕ, Bool, true, false, List, [], ◌∷◌, ◌++◌, Some, None, length, nat_le, nat_lt, replicate}
use Rattle.std.specs.Prelude.{slice_get, if◌then◌else◌}
use Rattle.std.specs.List.{list_any}
use Rattle.nq_base.specs.declared.Entry.{Entry}
use Rattle.nq_base.specs.declared.Event.{Event}
use Rattle.nq_model.specs.protocol.Kept.{Kept}
use Rattle.nq_model.specs.protocol.Message.{Packet, error, garbage_arguments}
use Rattle.nq_model.specs.protocol.Profile.{most_hosts}
use Rattle.nq_model.specs.protocol.Server.{Phase, serving, recovering, Server, to_host}
use Rattle.nq_model.specs.protocol.ServerStep.{boot, booted}
use Rattle.nq_model.specs.protocol.World.{Head, World, start, step, run}

-- ---- what happens

-- what happens in a run that may be torn: an event comes whole; or the server stops in the middle of one, and boots with this
-- longest term over what is kept as it was before the event, or over what is kept as it is after it
pub data Happening : Type 0 where
  whole : (event : Event) → Happening
  torn_before : (event : Event) (longest : ℕ) → Happening
  torn_after : (event : Event) (longest : ℕ) → Happening

-- numbers of packets: from the first one on, below the other
pub record Span : Type 0 where
  pub first : ℕ
  pub past : ℕ

-- whether a number is one of these
abbrev pub is_within : (k : ℕ) → Span → Bool
is_within k span = nat_le span.first k && nat_lt k span.past

-- a world, and the numbers of the packets that were made in it and never sent. They stay taken: the packets that are sent later have
-- the numbers behind them
pub record TornWorld : Type 0 where
  pub world : World
  pub unsent : List Span

-- whether the packet of this number was never sent
abbrev pub is_unsent : (k : ℕ) → List Span → Bool
is_unsent k unsent = list_any (is_within k) unsent

-- what stands at the number of a packet that was never sent: a packet to a host that there cannot be
abbrev pub no_packet : Packet
no_packet = to_host most_hosts (error 0 garbage_arguments)

-- whether an event delivers a packet that was never sent
abbrev pub brings_unsent : List Span → Event → Bool
brings_unsent unsent (Event.Deliver k) = is_unsent k unsent
brings_unsent unsent other = false

-- ---- the run

-- the world after an event. What was never sent can not come, and changes nothing
abbrev pub comes : TornWorld → Event → World
comes t event = if brings_unsent t.unsent event then t.world else step t.world event

-- the server boots at this time over what is found, and all else that it held is lost. It knows no table of an earlier boot
unfoldable pub boots_over : World → (found : Kept) → (longest now : ℕ) → World
boots_over w found longest now = record w {
  server = boot found longest now None;
  journal = Entry.X (found.boot + 1) now (booted found longest).longest ∷ w.journal;
}

-- the world after an event none of whose packets was sent
unfoldable pub unheard : (before after : World) → World
unheard before after = record after {
  packets = before.packets ++ replicate (length after.packets - length before.packets) no_packet;
}

-- the numbers of the packets that an event made
abbrev pub numbers_made : (before after : World) → Span
numbers_made before after = record { first = length before.packets; past = length after.packets }

-- the event was torn, and what it changed is kept: this world is the one after it
unfoldable pub torn_off : TornWorld → (after : World) → (longest : ℕ) → TornWorld
torn_off t after longest = record {
  world = boots_over (unheard t.world after) after.server.kept longest after.server.now;
  unsent = numbers_made t.world after ∷ t.unsent;
}

-- the world after one more happening
abbrev pub torn_step : TornWorld → Happening → TornWorld
torn_step t (whole event) = record t { world = comes t event }
torn_step t (torn_before event longest) =
    record t { world = boots_over t.world t.world.server.kept longest t.world.server.now }
torn_step t (torn_after event longest) = torn_off t (comes t event) longest

-- the world after all that happened, the newest first
abbrev pub torn_run : Head → List Happening → TornWorld
torn_run head [] = record { world = start head; unsent = [] }
torn_run head (h ∷ earlier) = torn_step (torn_run head earlier) h

-- ---- the schedule whose run it is

-- an event as a part of a schedule, where its packet was sent
abbrev pub event_of : List Span → Event → List Event
event_of unsent event = if brings_unsent unsent event then [] else event ∷ []

-- what a happening is in a schedule, the newest event first: a torn event is left out, or comes whole, and a crash follows
abbrev pub events_of : List Span → Happening → List Event
events_of unsent (whole event) = event_of unsent event
events_of unsent (torn_before event longest) = Event.Crash longest ∷ []
events_of unsent (torn_after event longest) = Event.Crash longest ∷ event_of unsent event

-- the schedule of a torn run
abbrev pub schedule : Head → List Happening → List Event
schedule head [] = []
schedule head (h ∷ earlier) = events_of (torn_run head earlier).unsent h ++ schedule head earlier

-- ---- what is the same

-- a phase without the table with which the last boot served, on which no answer rests
abbrev pub phase_without : Phase → Phase
phase_without serving = serving
phase_without (recovering until heard last) = recovering until heard None

-- a server without that table
abbrev pub without_last : Server → Server
without_last s = record s { phase = phase_without s.phase }

-- A torn world is this world of a schedule: its server is the same but for the table with which the last boot served, and the clients
-- and the journal are the same. As many packets have numbers, and the same stands at each number, but for the packets that were
-- never sent: in the schedule's world each of them is there and is not delivered any more
pub record IsWorldOf (t : TornWorld) (w : World) : Type 0 where
  pub server : without_last t.world.server ≡ without_last w.server
  pub clients : t.world.clients ≡ w.clients
  pub journal : t.world.journal ≡ w.journal
  pub as_many : length t.world.packets ≡ length w.packets
  pub sent : (k : ℕ) → is_unsent k t.unsent ≡ false → slice_get t.world.packets k ≡ slice_get w.packets k
  pub unsent : (k : ℕ) → is_unsent k t.unsent ≡ true → slice_get t.world.packets k ≡ Some no_packet

-- however often a run is torn, it is the run of its schedule
abbrev pub TornRunsAreRuns : Type 0
TornRunsAreRuns = (head : Head) (happened : List Happening) → IsWorldOf (torn_run head happened) (run head (schedule head happened))
