-- The loop over a world as contracts see it. Below, `before` and `now` are the keeper's counts of faults.
use Rattle.std.specs.List.{AllByRecursion}
use Rattle.std.specs.Prelude.{◌≡◌, ◌<◌, ◌≤◌, ◌+◌, ◌^◌, ℕ, Bool, List, [], ◌∷◌, Option, Result, Ok, Err, map, reverse}
use Rattle.nq_clock.specs.Clocks.{ClockTold}
use Rattle.nq_base.specs.Block.{filled}
use Rattle.nq_base.specs.declared.Call.{Call}
use Rattle.nq_base.specs.declared.Event.{Event}
use Rattle.nq_io.specs.Faults.{Rose}
use Rattle.nq_keeper.specs.Keeping.{StaysOrEnds}
use Rattle.nq_link.specs.Link.{Letters}
use Rattle.nq_loop.specs.Counting.{Counts, LoopCounts}
use Rattle.nq_loop.specs.Looping.{Gives, Makes, Moment, Step, Takes, TakesTurn}
use Rattle.nq_loop.specs.Sending.{told_of}
use Rattle.nq_loop.specs.Steps.{MakesSteps}
use Rattle.nq_loop.specs.declared.turns.Halt.{Halt}
use Rattle.nq_model.specs.protocol.Kept.{Kept}
use Rattle.nq_model.specs.protocol.Stepped.{done, stepped}
use Rattle.nq_model.specs.protocol.World.{Head}
use Rattle.nq_link.specs.Packets.{Datagram}
use Rattle.nq_link.specs.Links.{LinkTold}
use Rattle.nq_replay.specs.Delivering.{Marks}
use Rattle.nq_world.specs.Playing.{IsAsBefore, Plays, WorldOver}

-- a loop: its world, what the world's keeper tells of its content, what the loop keeps, the events with the oldest first, and the links
pub record Loop (K : Type 0) : Type 0 where
  pub world : WorldOver K
  pub kept : Option Kept
  pub state : LoopCounts
  pub ran : List Event
  pub links : List LinkTold

-- the loop of these
abbrev pub loop_of : {K L : Type 0} → (content : K → Option Kept) → (sent waiting : L → Option Letters) → (faults receives : L → ℕ) → WorldOver K
    → LoopCounts → (ran : List Event) → (links : List L) → Loop K
loop_of content sent waiting faults receives world state ran links = record {
  world = world;
  kept = content world.server.keeper;
  state = state;
  ran = ran;
  links = map (told_of sent waiting faults receives) links;
}

-- its moment
abbrev pub moment_of : {K : Type 0} → Loop K → Moment
moment_of l = record { events = reverse l.ran; links = l.links }

-- as many clients as hosts, which are at most 64, and a link for each of them and one for the server
pub record AreThere (clients hosts links : ℕ) : Type 0 where
  pub clients_are : clients ≡ hosts
  pub few : hosts ≤ 64
  pub links_are : links ≡ hosts + 1

-- a call of a loop: it reads, synchronizes, or writes the block of a number
abbrev pub IsLoopCall : Call → Type 0
IsLoopCall (Call.Read file block) = Unit {0}
IsLoopCall (Call.Write file block body) = (number : ℕ) × (number < 2 ^ 32) × (body ≡ filled number)
IsLoopCall (Call.Sync file) = Unit {0}
IsLoopCall other = ⊥

-- an event of a loop among so many hosts: a tick, a delivery, or a call of a loop
abbrev pub IsLooped : (hosts : ℕ) → Event → Type 0
IsLooped hosts (Event.Call host call) = (host < hosts) × IsLoopCall call
IsLooped hosts (Event.ClientTick host) = host < hosts
IsLooped hosts (Event.Restart host) = ⊥
IsLooped hosts (Event.Crash longest) = ⊥
IsLooped hosts other = Unit {0}

-- each of these events was taken in behind those before it
abbrev pub AreTaken : Head → List Event → Type 0
AreTaken head [] = Unit {0}
AreTaken head (event ∷ earlier) = (stepped head earlier event ≡ done) × AreTaken head earlier

-- a loop that goes on from this head: its world plays its events, which are of a loop and were taken in, and it keeps which packets were
-- delivered and how many calls each host began
pub record IsLooping {K : Type 0} (head : Head) (l : Loop K) : Type 0 where
  pub plays : Plays head (reverse l.ran) l.world l.kept
  pub marks : Marks l.state.flags (reverse l.ran)
  pub counts : Counts l.state.begun (reverse l.ran)
  pub taken : AreTaken head (reverse l.ran)
  pub looped : AllByRecursion (IsLooped head.hosts) l.ran

-- a loop whose keeper failed: its world is as one that plays its events, but for the keeper
pub record HasFailed {K : Type 0} (head : Head) (l : Loop K) : Type 0 where
  pub old : WorldOver K
  pub told : Option Kept
  pub plays : Plays head (reverse l.ran) old told
  pub same : IsAsBefore old l.world
  pub kept : StaysOrEnds told l.kept
  pub looped : AllByRecursion (IsLooped head.hosts) l.ran

-- a loop that stopped goes on from its head, unless its keeper failed
abbrev pub Stopped : {K : Type 0} → Head → Halt → Loop K → Type 0
Stopped head Halt.Keep l = HasFailed head l
Stopped head other l = IsLooping head l

-- how a loop stands behind some of its steps
abbrev pub Stands : {K X : Type 0} → Head → Result X Halt → Loop K → Type 0
Stands head (Ok any) l = IsLooping head l
Stands head (Err why) l = Stopped head why l

-- an event was given to a loop, and that ended so
pub record GivesTo {K : Type 0} (head : Head) (event : Event) (ended : Result Bool Halt) (old new : Loop K) : Type 0 where
  pub gives : Gives head event ended (moment_of old) (moment_of new)
  pub stands : Stands head ended new

-- steps of a loop were made, and ended so
pub record Loops {K : Type 0} (head : Head) (steps : List Step) (ended : Result Bool Halt) (old new : Loop K) : Type 0 where
  pub makes : MakesSteps (Makes head) steps ended (moment_of old) (moment_of new)
  pub stands : Stands head ended new

-- the keeper's count of faults rose where it failed, and nowhere else
abbrev pub CountsKeep : {X : Type 0} → Result X Halt → (before now : ℕ) → Type 0
CountsKeep (Ok any) before now = now ≡ before
CountsKeep (Err Halt.Keep) before now = Rose before now
CountsKeep (Err other) before now = now ≡ before

-- the keeper counts its faults, and there are as many clients and hosts as before
pub record Keeps (ended : Result Bool Halt) (before now : ℕ) (clients clients' hosts hosts' : ℕ) : Type 0 where
  pub faults : CountsKeep ended before now
  pub clients_are : clients' ≡ clients
  pub hosts_are : hosts' ≡ hosts

-- a datagram was taken in, by a loop that had received it
pub record TakesFrom {K : Type 0} (head : Head) (d : Datagram) (ended : Result Bool Halt) (old new : Loop K) : Type 0 where
  pub takes : Takes head d ended (moment_of old) (moment_of new)
  pub stands : Stands head ended new

-- a turn of a loop, which ended so
pub record Turns {K : Type 0} (head : Head) (ended : Result Bool Halt) (clock clock' : ClockTold) (old new : Loop K) : Type 0 where
  pub takes : TakesTurn head ended clock clock' (moment_of old) (moment_of new)
  pub stands : Stands head ended new
