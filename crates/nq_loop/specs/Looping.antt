-- A turn of the loop, step by step, as it is told: by the events that were taken in, and by what the links tell. The events of a run are
-- told with the newest first.
use Rattle.std.specs.Prelude.{◌≡◌, ◌⊎◌, ℕ, ◌+◌, ◌-◌, ◌*◌, ◌/◌, ◌%◌, ◌==◌, ◌<◌, ◌≤◌, Bool, true, false, List, [], ◌∷◌, ◌++◌, Option, Some, None}
use Rattle.std.specs.Prelude.{Result, Ok, Err, is_some, drop, length, map, min, nat_lt, option_map, slice_get, slice_set, take, zero, suc}
use Rattle.std.specs.Prelude.{if◌then◌else◌}
use Rattle.nq_base.specs.Block.{filled}
use Rattle.nq_base.specs.declared.Call.{Call}
use Rattle.nq_base.specs.declared.Event.{Event}
use Rattle.nq_base.specs.declared.Party.{Party}
use Rattle.nq_io.specs.Faults.{Rose, count_up}
use Rattle.nq_link.specs.declared.Came.{Came}
use Rattle.nq_loop.specs.Counting.{begun_in}
use Rattle.nq_loop.specs.Matching.{CountsAs}
use Rattle.nq_loop.specs.Sending.{SendsAll, place_of}
use Rattle.nq_loop.specs.Steps.{MakesSteps, each_below}
use Rattle.nq_loop.specs.declared.turns.Deed.{Deed}
use Rattle.nq_loop.specs.declared.turns.Halt.{Halt}
use Rattle.nq_model.specs.protocol.Client.{Client}
use Rattle.nq_model.specs.protocol.Stepped.{done, stepped}
use Rattle.nq_model.specs.protocol.World.{Head, World, run}
use Rattle.nq_link.specs.Packets.{Datagram}
use Rattle.nq_clock.specs.Clocks.{ClockTold, ReadsOnce}
use Rattle.nq_link.specs.Links.{Hears, Letter, LinkTold, most_bytes}
use Rattle.nq_replay.specs.Reaching.{IsReached}
use Rattle.nq_world.specs.Shown.{datagram}
use Rattle.nq_world.specs.declared.stepped.Stepped.{Stepped}

-- a moment of the loop: the events that were taken in, and the links, the server's first and then those of the hosts in their order
pub record Moment : Type 0 where
  pub events : List Event
  pub links : List LinkTold

-- ---- giving an event

-- the datagrams that were sent in a world
abbrev pub datagrams_of : World → List Datagram
datagrams_of w = map datagram w.packets

-- what an event sends behind these
abbrev pub sends_at : Head → (earlier : List Event) → Event → List Datagram
sends_at head earlier event = drop (length (datagrams_of (run head earlier))) (datagrams_of (run head (event ∷ earlier)))

-- an event was taken in, and sending what it sends ended so
pub record IsTaken (head : Head) (event : Event) (sending : Result Unit Halt) (at after : Moment) : Type 0 where
  pub lawful : stepped head at.events event ≡ done
  pub taken : after.events ≡ event ∷ at.events
  pub sends : SendsAll sending (sends_at head at.events event) at.links after.links

-- an event was given: it was taken in and all that it sends was sent; or the loop stopped, at a limit, since the keeper failed or memory
-- was wanting, or since a link failed or memory was wanting while it was sent
abbrev pub Gives : Head → Event → Result Bool Halt → (at after : Moment) → Type 0
Gives head event (Ok moved) at after = (moved ≡ true) × IsTaken head event (Ok tt) at after
Gives head event (Err (Halt.Limit limit)) at after =
    IsReached limit (length at.events) (length (run head at.events).packets) × (after ≡ at)
Gives head event (Err Halt.Keep) at after = after ≡ at
Gives head event (Err Halt.Link) at after = IsTaken head event (Err Halt.Link) at after
Gives head event (Err Halt.Memory) at after = (after ≡ at) ⊎ IsTaken head event (Err Halt.Memory) at after

-- what an event that was taken in answers, by how sending ended
abbrev pub moved : Result Unit Halt → Result Bool Halt
moved (Ok all) = Ok true
moved (Err why) = Err why

-- why the loop stops where a world did not take an event in. A world that plays the run takes each event of a loop in, but for a limit, a
-- fault, or want of memory
abbrev pub halt_of : Stepped → Halt
halt_of (Stepped.Limit limit) = Halt.Limit limit
halt_of Stepped.Fault = Halt.Keep
halt_of other = Halt.Memory

-- an event was given, if one is due
abbrev pub GivesDue : Head → Option Event → Result Bool Halt → (at after : Moment) → Type 0
GivesDue head None ended at after = (ended ≡ Ok false) × (after ≡ at)
GivesDue head (Some event) ended at after = Gives head event ended at after

-- ---- calls

-- what a host calls behind so many of its calls: it writes its block, synchronizes, and reads the block of the next host
abbrev pub call_behind : (hosts host begun : ℕ) → Option Call
call_behind hosts host zero = Some (Call.Write 1 host (filled (100 + host)))
call_behind hosts host (suc zero) = Some (Call.Sync 1)
call_behind hosts host (suc (suc zero)) = Some (Call.Read 1 ((host + 1) % hosts))
call_behind hosts host (suc (suc (suc more))) = None

-- whether there is no client, or it has a call under way
abbrev pub is_busy : Option Client → Bool
is_busy None = true
is_busy (Some c) = is_some c.call

-- the next call of a host, if it has one left and none under way
abbrev pub call_due : Head → (host : ℕ) → List Event → Option Event
call_due head host events =
    if is_busy (slice_get (run head events).clients host) then None
    else option_map (Event.Call host) (call_behind head.hosts host (begun_in host events))

-- ---- receiving

-- a datagram that came to a party
abbrev pub came_to : Party → Letter → Datagram
came_to party letter = record { sender = letter.0; to = party; bytes = letter.1 }

-- the packet of a datagram was delivered, or the datagram is dropped, since it is no packet
abbrev pub Delivers : Head → Option ℕ → Result Bool Halt → (at after : Moment) → Type 0
Delivers head None ended at after = (ended ≡ Ok true) × (after ≡ at)
Delivers head (Some number) ended at after = Gives head (Event.Deliver number) ended at after

-- a datagram was taken in as the delivery of the packet that it counts as
pub record Counted (head : Head) (d : Datagram) (ended : Result Bool Halt) (at after : Moment) : Type 0 where
  pub number : Option ℕ
  pub counts : CountsAs (datagrams_of (run head at.events)) at.events d number
  pub delivers : Delivers head number ended at after

-- likewise, or memory was wanting to find that packet
abbrev pub Takes : Head → Datagram → Result Bool Halt → (at after : Moment) → Type 0
Takes head d ended at after = Counted head d ended at after ⊎ ((ended ≡ Err Halt.Memory) × (after ≡ at))

-- what came to a party was taken in, if anything came
abbrev pub TakesIn : Head → Party → Option Letter → Result Bool Halt → (at after : Moment) → Type 0
TakesIn head party None ended at after = (ended ≡ Ok false) × (after ≡ at)
TakesIn head party (Some letter) ended at after = Takes head (came_to party letter) ended at after

-- the link at a place was asked for one receive, which brought this, if anything
pub record HearsAt (place : ℕ) (came : Option Letter) (at after : List LinkTold) : Type 0 where
  pub link : LinkTold
  pub there : slice_get at place ≡ Some link
  pub waiting : Option (List Letter)
  pub hears : Hears most_bytes came link.waiting waiting
  pub heard : after ≡ slice_set at place (record link { waiting = waiting; receives = count_up link.receives })

-- the link at a place was asked for one receive, failed, and counted that
pub record MissesAt (place : ℕ) (at after : List LinkTold) : Type 0 where
  pub link : LinkTold
  pub there : slice_get at place ≡ Some link
  pub count : ℕ
  pub rose : Rose link.faults count
  pub missed : after ≡ slice_set at place (record link { faults = count; receives = count_up link.receives })

-- one receive into a buffer on the link at a place brought this, or it failed
abbrev pub Brings : Came → (place : ℕ) → (at after : List LinkTold) → (filled : List ℕ) → Type 0
Brings (Came.Datagram count origin) place at after filled = (count ≤ length filled) × HearsAt place (Some (origin, take count filled)) at after
Brings Came.Nothing place at after filled = HearsAt place None at after
Brings Came.Failed place at after filled = MissesAt place at after

-- one receive on a party's link brought a datagram or none, and it was taken in
pub record IsHeard (head : Head) (party : Party) (ended : Result Bool Halt) (at after : Moment) : Type 0 where
  pub came : Option Letter
  pub links : List LinkTold
  pub hears : HearsAt (place_of party) came at.links links
  pub takes : TakesIn head party came ended (record at { links = links }) after

-- one receive on a party's link failed
pub record IsUnheard (party : Party) (ended : Result Bool Halt) (at after : Moment) : Type 0 where
  pub why : ended ≡ Err Halt.Link
  pub fails : MissesAt (place_of party) at.links after.links
  pub same : after.events ≡ at.events

-- ---- steps

-- a step of a turn: an event is given, the next call of a host begins, or a party receives
pub data Step : Type 0 where
  given : Event → Step
  call : (host : ℕ) → Step
  receive : Party → Step

-- the step by what is done in it
abbrev pub step_of : Deed → Step
step_of (Deed.Tick host) = given (Event.ClientTick host)
step_of Deed.ServerTick = given Event.ServerTick
step_of (Deed.Call host) = call host
step_of (Deed.Receive party) = receive party

-- it is done by one of so many hosts, or by the server
abbrev pub IsAmong : (hosts : ℕ) → Deed → Type 0
IsAmong hosts (Deed.Tick host) = host < hosts
IsAmong hosts Deed.ServerTick = Unit {0}
IsAmong hosts (Deed.Call host) = host < hosts
IsAmong hosts (Deed.Receive party) = place_of party < hosts + 1

-- a step was made, and ended with whether it moved anything, or with why the turn stops
abbrev pub Makes : Head → Step → Result Bool Halt → (at after : Moment) → Type 0
Makes head (given event) ended at after = Gives head event ended at after
Makes head (call host) ended at after = GivesDue head (call_due head host at.events) ended at after
Makes head (receive party) ended at after = IsHeard head party ended at after ⊎ IsUnheard party ended at after

-- ---- turns

-- a round: the clock of each host ticks, then the server's
abbrev pub round_steps : (hosts : ℕ) → List Step
round_steps hosts = each_below hosts (λ host. given (Event.ClientTick host)) ++ given Event.ServerTick ∷ []

-- so many rounds
abbrev pub rounds_steps : (hosts rounds : ℕ) → List Step
rounds_steps hosts zero = []
rounds_steps hosts (suc rounds) = rounds_steps hosts rounds ++ round_steps hosts

-- the next call of each host, in order of the hosts
abbrev pub call_steps : (hosts : ℕ) → List Step
call_steps hosts = each_below hosts call

-- the server receives, and then each host in their order
abbrev pub receive_steps : (hosts : ℕ) → List Step
receive_steps hosts = receive Party.Server ∷ each_below hosts (λ host. receive (Party.Client host))

-- the rounds that are due where the server's clock shows this time: as many as the reading is above it, but at most 60
abbrev pub rounds_due : (time reading : ℕ) → ℕ
rounds_due time reading = min (reading - time) 60

-- the steps of a turn
abbrev pub turn_steps : (hosts rounds : ℕ) → List Step
turn_steps hosts rounds = rounds_steps hosts rounds ++ (call_steps hosts ++ receive_steps hosts)

-- how many these are
abbrev pub step_count : (hosts rounds : ℕ) → ℕ
step_count hosts rounds = rounds * (hosts + 1) + (2 * hosts + 1)

-- what is done at a place of a row of them: a row is a round, or the calls and the server's receive, or the receives of the hosts
abbrev pub deed_in : (hosts rounds row host : ℕ) → Deed
deed_in hosts rounds row host =
    if nat_lt row rounds
    then (if nat_lt host hosts then Deed.Tick host else Deed.ServerTick)
    else (if row == rounds
    then (if nat_lt host hosts then Deed.Call host else Deed.Receive Party.Server)
    else Deed.Receive (Party.Client host))

-- what is done at a place of a turn
abbrev pub deed_at : (hosts rounds place : ℕ) → Deed
deed_at hosts rounds place = deed_in hosts rounds (place / (hosts + 1)) (place % (hosts + 1))

-- a turn that ended so: the clock was read once, and the steps of the turn were made
pub record TakesTurn (head : Head) (ended : Result Bool Halt) (clock clock' : ClockTold) (at after : Moment) : Type 0 where
  pub reading : ℕ
  pub read : ReadsOnce reading clock clock'
  pub made : MakesSteps (Makes head) (turn_steps head.hosts (rounds_due (run head at.events).server.now reading)) ended at after
