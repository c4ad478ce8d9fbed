-- A server over a keeper, to which anything may come, in any order. Below, `content` is what a keeper tells of what it keeps, and
-- `faults` is its count of faults.
use Rattle.std.specs.Prelude.{◌≡◌, ◌<◌, ◌≤◌, ◌^◌, ℕ, List, [], ◌∷◌, Option, IsSome, Ok}
use Rattle.nq_loop.specs.declared.hosts.served.arriving.Arrival.{Arrival}
use Rattle.nq_loop.specs.declared.hosts.served.arriving.Arrival.TheVariants as arrival
use Rattle.nq_datagrams.specs.Incoming.{datagram_in}
use Rattle.nq_base.specs.Entries.{EntryList}
use Rattle.nq_model.specs.protocol.Kept.{Kept}
use Rattle.nq_model.specs.protocol.Profile.{shortest_term, longest_term}
use Rattle.nq_model.specs.protocol.Server.{recovering}
use Rattle.nq_model.specs.protocol.ServerStep.{receive, tick}
use Rattle.nq_model.specs.protocol.Table.{Table}
use Rattle.nq_model.specs.laws.RowsStandApart.{HasOneRowEach, WritesAlone}
use Rattle.nq_server.specs.Holding.{Boots, Holding, IsTaken, Reboots}
use Rattle.nq_server.specs.State.{Beside, server_of}
use Rattle.nq_server.specs.Stepping.{next_of}
use Rattle.nq_server.specs.declared.Received.{Received}
use Rattle.nq_wire.specs.Outbox.{Datagrams}

-- what may come to a server: a datagram of any bytes from any host; a tick of its clock, which then shows this time; or a crash,
-- after which it boots at this time with this longest term
pub data Coming : Type 0 where
  datagram : (sender : ℕ) (bytes : List ℕ) → Coming
  ticks : (now : ℕ) → Coming
  crashes : (longest now : ℕ) → Coming

-- what comes, as code hands it on
abbrev pub coming_of : Arrival → Coming
coming_of (arrival.Datagram sender bytes) = datagram sender bytes.items
coming_of (arrival.Tick now) = ticks now
coming_of (arrival.Crash longest now) = crashes longest now

-- this can come to a server whose clock shows this time: a clock never falls and stays below 2^62, and a boot grants 5 to 600
-- ticks at most
abbrev pub CanCome : (time : ℕ) → Coming → Type 0
CanCome time (datagram sender bytes) = Unit {0}
CanCome time (ticks now) = (time ≤ now) × (now < 2 ^ 62)
CanCome time (crashes longest now) = (shortest_term ≤ longest) × (longest ≤ longest_term) × (time ≤ now) × (now < 2 ^ 62)

-- what a server does when this comes: it makes the step of the protocol, or changes nothing where it is refused
abbrev pub Does : {K : Type 0} → (content : K → Option Kept) → (faults : K → ℕ) → Coming → Received → (out out' : Datagrams) → (log log' : EntryList)
    → (old new : Holding K) → Type 0
Does content faults (datagram sender bytes) answer out out' log log' old new =
    IsTaken (λ kept. receive (server_of old.beside kept) sender (next_of out) (datagram_in bytes)) answer (content old.keeper) (content new.keeper)
    (faults old.keeper) (faults new.keeper) old new out out' log log'
Does content faults (ticks now) answer out out' log log' old new =
    IsTaken (λ kept. tick (server_of old.beside kept) now) answer (content old.keeper) (content new.keeper) (faults old.keeper) (faults new.keeper) old
    new out out' log log'
Does content faults (crashes longest now) answer out out' log log' old new =
    Reboots longest now answer (content old.keeper) (content new.keeper) (faults old.keeper) (faults new.keeper) old new log log'

-- a server booted over a keeper that told what it kept
pub record HasBooted {K : Type 0} (content : K → Option Kept) (faults : K → ℕ) (s : Holding K) : Type 0 where
  pub keeper : K
  pub longest : ℕ
  pub now : ℕ
  pub told : IsSome (content keeper)
  pub boots : Boots longest now (Ok s) (content keeper) (content s.keeper) (faults keeper) (faults s.keeper)

-- this came to a server whose keeper told what it kept
pub record HasCome {K : Type 0} (content : K → Option Kept) (faults : K → ℕ) (came : Coming) (old new : Holding K) : Type 0 where
  pub answer : Received
  pub out : Datagrams
  pub out' : Datagrams
  pub log : EntryList
  pub log' : EntryList
  pub told : IsSome (content old.keeper)
  pub does : Does content faults came answer out out' log log' old new

-- a server booted, and then all this came to it. The latest comes first in the list
abbrev pub IsServed : {K : Type 0} → (content : K → Option Kept) → (faults : K → ℕ) → List Coming → Holding K → Type 0
IsServed {K} content faults [] s = HasBooted content faults s
IsServed {K} content faults (came ∷ earlier) s =
    (before : Holding K) × IsServed content faults earlier before × HasCome content faults came before s

-- the rows of a server stand apart, and while it recovers there are none
pub record RowsApart (s : Beside) : Type 0 where
  pub one_each : HasOneRowEach s.table.rows
  pub alone : WritesAlone s.table.rows
  pub none_recovering : (until heard : ℕ) (last : Option Table) → s.phase ≡ recovering until heard last → s.table.rows ≡ []

-- whatever came to a server, its rows stand apart
abbrev pub ServedRowsStandApart : {K : Type 0} → (content : K → Option Kept) → (faults : K → ℕ) → Type 0
ServedRowsStandApart {K} content faults =
    (came : List Coming) (s : Holding K) → IsServed content faults came s → RowsApart s.beside
