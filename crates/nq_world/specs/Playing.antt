-- A world over a keeper as contracts see it, and the run that it plays. Below, `told` is what the server's keeper told of its
-- content before a call and `tells` is what it tells after it; `before` and `count` are its counts of faults.
use Rattle.std.specs.Prelude.{◌≡◌, ◌≤◌, ◌<◌, ℕ, List, [], ◌∷◌, Option, Some, Result, Ok, Err, length, map, slice_get, IfSome}
use Rattle.nq_base.specs.declared.Entry.{Entry}
use Rattle.nq_base.specs.declared.Event.{Event}
use Rattle.nq_base.specs.declared.Party.{Party}
use Rattle.nq_client.specs.Counted.{Counted}
use Rattle.nq_clock.specs.Counts.{SkewCounts}
use Rattle.nq_io.specs.Faults.{Rose}
use Rattle.nq_keeper.specs.Keeping.{StaysOrEnds}
use Rattle.nq_model.specs.protocol.Client.{Client}
use Rattle.nq_model.specs.protocol.Kept.{Kept}
use Rattle.nq_model.specs.protocol.Profile.{shortest_term}
use Rattle.nq_model.specs.protocol.Stepped.{done, stepped}
use Rattle.nq_model.specs.protocol.World.{Head, run}
use Rattle.nq_link.specs.Packets.{Datagram}
use Rattle.nq_server.specs.Holding.{Holding, IsUntouched}
use Rattle.nq_server.specs.State.{beside}
use Rattle.nq_world.specs.Answering.{told as answer_of}
use Rattle.nq_world.specs.Counting.{TookIn}
use Rattle.nq_world.specs.Running.{IsRunOf}
use Rattle.nq_world.specs.Shown.{Seen}
use Rattle.nq_world.specs.declared.starting.NewFault.{NewFault}
use Rattle.nq_world.specs.declared.starting.NewFault.TheVariants as fault
use Rattle.nq_world.specs.declared.stepped.Stepped.{Stepped}

-- a world: the server, the clients by host, the datagrams and the entries with the oldest first, the test of skew, how many
-- events were taken in, and the term that clients want
pub record WorldOver (K : Type 0) : Type 0 where
  pub server : Holding K
  pub clients : List Counted
  pub datagrams : List Datagram
  pub entries : List Entry
  pub skew : SkewCounts
  pub events : ℕ
  pub term : ℕ

-- what is seen of it
abbrev pub seen_of : {K : Type 0} → WorldOver K → Seen
seen_of w = record {
  clients = map (λ c. c.client) w.clients;
  datagrams = w.datagrams;
  entries = w.entries;
}

-- a world plays the run of these events from this head: what is seen of it is the run's, its keeper tells what the run's server
-- keeps, and beside that its server is the run's; neither the server nor a client has counted more than these events
pub record Plays {K : Type 0} (head : Head) (events : List Event) (w : WorldOver K) (told : Option Kept) : Type 0 where
  pub shown : IsRunOf head events (seen_of w) w.skew
  pub keeps : told ≡ Some (run head events).server.kept
  pub holds : w.server.beside ≡ beside (run head events).server
  pub counted : w.events ≡ length events
  pub term : w.term ≡ head.term
  pub served : w.server.taken ≤ length events
  pub heard : TookIn (length events) w.clients

-- an event that can come to so many hosts: it is of a host that is there, and a boot has a longest term of 5 ticks up to this one
abbrev pub CanCome : (hosts longest : ℕ) → Event → Type 0
CanCome hosts longest (Event.Call host op) = host < hosts
CanCome hosts longest (Event.ClientTick host) = host < hosts
CanCome hosts longest (Event.Restart host) = host < hosts
CanCome hosts longest (Event.Crash term) = (shortest_term ≤ term) × (term ≤ longest)
CanCome hosts longest other = Unit {0}

-- a world is as before, but for its keeper
pub record IsAsBefore {K : Type 0} (old new : WorldOver K) : Type 0 where
  pub server : IsUntouched old.server new.server
  pub clients : new.clients ≡ old.clients
  pub datagrams : new.datagrams ≡ old.datagrams
  pub entries : new.entries ≡ old.entries
  pub skew : new.skew ≡ old.skew
  pub events : new.events ≡ old.events
  pub term : new.term ≡ old.term

-- what a step does to a world that plays the run of these events, by its answer. `Done`: it plays the run with this event. Every
-- other answer has its cause, and the world is as before
abbrev pub Steps : {K : Type 0} → (head : Head) (events : List Event) (event : Event) → Stepped → (old new : WorldOver K) → (told tells : Option Kept) → Type 0
Steps head events event Stepped.Done old new told tells =
    (stepped head events event ≡ done) × Plays head (event ∷ events) new tells
Steps head events event Stepped.Fault old new told tells =
    (stepped head events event ≡ done) × IsAsBefore old new × StaysOrEnds told tells
Steps head events event Stepped.Memory old new told tells =
    (stepped head events event ≡ done) × IsAsBefore old new × (tells ≡ told)
Steps head events event other old new told tells =
    (answer_of (stepped head events event) ≡ other) × IsAsBefore old new × (tells ≡ told)

-- the keeper's count of faults rose where the answer is a fault, and nowhere else
abbrev pub CountsFaults : Stepped → (before count : ℕ) → Type 0
CountsFaults Stepped.Fault before count = Rose before count
CountsFaults other before count = count ≡ before

-- what an event that passed the tests does to a world over a keeper that tells its content so
abbrev pub TakesIn : {K : Type 0} → (content : K → Option Kept) → Event → Stepped → (old new : WorldOver K) → Type 0
TakesIn content event answer old new =
    (head : Head) (events : List Event)
    → Plays head events old (content old.server.keeper)
    → stepped head events event ≡ done
    → Steps head events event answer old new (content old.server.keeper) (content new.server.keeper)

-- a world has so many hosts, this longest term of all boots and this term that clients want
pub record HasSettings {K : Type 0} (hosts longest term : ℕ) (w : WorldOver K) : Type 0 where
  pub hosts_are : length w.clients ≡ hosts
  pub longest_is : w.skew.window ≡ longest
  pub term_is : w.term ≡ term

-- in every event the keeper counts its faults and is the same one after some of its calls, and the world keeps its settings
pub record GoesOn {K : Type 0} (faults : K → ℕ) (follows : K → K → Type 0) (answer : Stepped) (old new : WorldOver K) : Type 0 where
  pub counts : CountsFaults answer (faults old.server.keeper) (faults new.server.keeper)
  pub keeper : follows old.server.keeper new.server.keeper
  pub settings : HasSettings (length old.clients) old.skew.window old.term new

-- the keeper of a world, or the one that is handed back
abbrev pub keeper_in : {K : Type 0} → Result (WorldOver K) (NewFault K) → K
keeper_in (Ok w) = w.server.keeper
keeper_in (Err (fault.Failed keeper)) = keeper
keeper_in (Err (fault.Memory keeper)) = keeper

-- a world that begins over a keeper that tells this plays the run of no events from this head
abbrev pub Begins : {K : Type 0} → Head → Kept → Result (WorldOver K) (NewFault K) → (told tells : Option Kept) (before count : ℕ) → Type 0
Begins head first (Ok w) told tells before count =
    (told ≡ Some first → Plays head [] w tells)
    × HasSettings head.hosts head.longest head.term w
    × (count ≡ before)
Begins head first (Err (fault.Failed keeper)) told tells before count = Rose before count
Begins head first (Err (fault.Memory keeper)) told tells before count = count ≡ before

-- a world before its first event: these clients, the server and the test of skew as they were given, and nothing sent or told
pub record IsNew {K : Type 0} (clients : List Client) (server : Holding K) (skew : SkewCounts) (term : ℕ) (w : WorldOver K) : Type 0 where
  pub server_is : w.server ≡ server
  pub clients_are : map (λ c. c.client) w.clients ≡ clients
  pub hosts_are : length w.clients ≡ length skew.hosts
  pub none_sent : w.datagrams ≡ []
  pub none_told : w.entries ≡ []
  pub skew_is : w.skew ≡ skew
  pub none_taken : w.events ≡ 0
  pub none_heard : TookIn 0 w.clients
  pub term_is : w.term ≡ term

-- a party that is there, among so many hosts
abbrev pub IsThere : (hosts : ℕ) → Party → Type 0
IsThere hosts Party.Server = Unit {0}
IsThere hosts (Party.Client host) = host < hosts

-- the time that a party's clock shows
abbrev pub IsTimeOf : {K : Type 0} → WorldOver K → Party → (time : ℕ) → Type 0
IsTimeOf w Party.Server time = time ≡ w.server.beside.time
IsTimeOf w (Party.Client host) time = IfSome (slice_get w.clients host) (λ c. time ≡ c.client.now)
