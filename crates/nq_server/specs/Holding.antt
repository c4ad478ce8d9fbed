-- A server as contracts see it, and what its calls do. Below, `told` is what the keeper told of its content before the call and
-- `tells` is what it tells after it; `before` and `count` are its counts of faults.
use Rattle.std.specs.Prelude.{◌≡◌, ◌<◌, ℕ, ◌+◌, Option, Some, None, Result, Ok, Err}
use Rattle.std.specs.Option.{ForSome}
use Rattle.nq_keeper.specs.Booting.{last_boot}
use Rattle.nq_io.specs.Faults.{Rose}
use Rattle.nq_base.specs.Entries.{EntryList}
use Rattle.nq_keeper.specs.Keeping.{StaysOrEnds}
use Rattle.nq_model.specs.protocol.Kept.{Kept}
use Rattle.nq_model.specs.protocol.Server.{Server, ServerStep, Outcome, taken, dropped}
use Rattle.nq_model.specs.protocol.ServerStep.{at_time, boot, crash}
use Rattle.nq_server.specs.declared.received.Received.{Received}
use Rattle.nq_server.specs.declared.received.Received.TheVariants.{Done, Dropped, Fault, Memory, Spent}
use Rattle.nq_server.specs.declared.server.BootFault.{BootFault}
use Rattle.nq_server.specs.declared.server.BootFault.TheVariants as fault
use Rattle.nq_server.specs.State.{Beside, beside, server_of}
use Rattle.nq_server.specs.Stepping.{Makes, Enters, SaysNothing, cause_of}
use Rattle.nq_wire.specs.Outbox.{Datagrams}

-- a server over a keeper: the keeper, what the server holds beside it, and how many datagrams and ticks it has taken in
pub record Holding (K : Type 0) : Type 0 where
  pub keeper : K
  pub beside : Beside
  pub taken : ℕ

-- all but the keeper is as before
pub record IsUntouched {K : Type 0} (old new : Holding K) : Type 0 where
  pub beside : new.beside ≡ old.beside
  pub taken : new.taken ≡ old.taken

-- a server was made, and is one of the protocol with this kept state
pub record IsServer {K : Type 0} (server : Server) (s : Holding K) (tells : Option Kept) : Type 0 where
  pub keeps : tells ≡ Some server.kept
  pub holds : s.beside ≡ beside server
  pub taken : s.taken ≡ 0

-- the keeper of the server, or the one that is handed back
abbrev pub keeper_in : {K : Type 0} → Result (Holding K) (BootFault K) → K
keeper_in (Ok s) = s.keeper
keeper_in (Err (fault.Failed keeper)) = keeper
keeper_in (Err (fault.Memory keeper)) = keeper
keeper_in (Err (fault.Spent keeper)) = keeper

-- what a boot does: it is the protocol's, of a server that knows no last table; it is spent where no number is left
abbrev pub Boots : {K : Type 0} → (longest time : ℕ) → Result (Holding K) (BootFault K) → (told tells : Option Kept) (before count : ℕ) → Type 0
Boots longest time (Ok s) told tells before count =
    ForSome told (λ kept. (kept.boot < last_boot) × IsServer (boot kept longest time None) s tells) × (count ≡ before)
Boots longest time (Err (fault.Failed keeper)) told tells before count = StaysOrEnds told tells × Rose before count
Boots longest time (Err (fault.Memory keeper)) told tells before count = (tells ≡ told) × (count ≡ before)
Boots longest time (Err (fault.Spent keeper)) told tells before count =
    ForSome told (λ kept. kept.boot ≡ last_boot) × (tells ≡ told) × (count ≡ before)

-- an event was taken in as this step, with this outcome
pub record TakesIn {K : Type 0} (step : ServerStep) (how : Outcome) (tells : Option Kept) (new : Holding K) (out out' : Datagrams)
    (log log' : EntryList) : Type 0 where
  pub outcome : step.outcome ≡ how
  pub makes : Makes step tells new.beside out out' log log'

-- nothing changed but the keeper
pub record IsRefused {K : Type 0} (old new : Holding K) (out out' : Datagrams) (log log' : EntryList) : Type 0 where
  pub untouched : IsUntouched old new
  pub silent : SaysNothing out out' log log'

-- what a call does that takes an event in, by its answer: it makes the step of the kept state that was told, or changes nothing
abbrev pub IsTaken : {K : Type 0} → (step : Kept → ServerStep) → Received → (told tells : Option Kept) (before count : ℕ) (old new : Holding K)
    (out out' : Datagrams) (log log' : EntryList) → Type 0
IsTaken step Done told tells before count old new out out' log log' =
    ForSome told (λ kept. TakesIn (step kept) taken tells new out out' log log')
    × (count ≡ before) × (new.taken ≡ old.taken + 1)
IsTaken step (Dropped reason) told tells before count old new out out' log log' =
    ForSome told (λ kept. TakesIn (step kept) (dropped (cause_of reason)) tells new out out' log log')
    × (count ≡ before) × (new.taken ≡ old.taken + 1)
IsTaken step Fault told tells before count old new out out' log log' =
    StaysOrEnds told tells × Rose before count × IsRefused old new out out' log log'
IsTaken step Memory told tells before count old new out out' log log' =
    (tells ≡ told) × (count ≡ before) × IsRefused old new out out' log log'
IsTaken step Spent told tells before count old new out out' log log' =
    (tells ≡ told) × (count ≡ before) × IsRefused old new out out' log log'

-- a server that crashed: it is the protocol's server after the crash, and so are its entries
pub record HasCrashed {K : Type 0} (step : ServerStep) (tells : Option Kept) (new : Holding K) (log log' : EntryList) : Type 0 where
  pub keeps : tells ≡ Some step.server.kept
  pub holds : new.beside ≡ beside step.server
  pub enters : Enters step.entries log log'

-- the server and the journal are as before
pub record HasNotCrashed {K : Type 0} (old new : Holding K) (log log' : EntryList) : Type 0 where
  pub untouched : IsUntouched old new
  pub entries : log'.entries ≡ log.entries

-- what a crash does, by the answer; nothing is ever dropped
abbrev pub Reboots : {K : Type 0} → (longest time : ℕ) → Received → (told tells : Option Kept) (before count : ℕ) (old new : Holding K)
    (log log' : EntryList) → Type 0
Reboots longest time Done told tells before count old new log log' =
    ForSome told (λ kept. (kept.boot < last_boot) × HasCrashed (crash (at_time (server_of old.beside kept) time) longest) tells new log log')
    × (count ≡ before) × (new.taken ≡ 0)
Reboots longest time (Dropped reason) told tells before count old new log log' = ⊥
Reboots longest time Fault told tells before count old new log log' =
    StaysOrEnds told tells × Rose before count × HasNotCrashed old new log log'
Reboots longest time Memory told tells before count old new log log' =
    (tells ≡ told) × (count ≡ before) × HasNotCrashed old new log log'
Reboots longest time Spent told tells before count old new log log' =
    ForSome told (λ kept. kept.boot ≡ last_boot) × (tells ≡ told) × (count ≡ before) × HasNotCrashed old new log log'
