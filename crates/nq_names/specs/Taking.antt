-- What taking a packet in does, and what reading what is kept does. Below, `told` is what the server's keeper told of its content before a
-- call, and `tells` is what it tells after it.
use Rattle.std.specs.Prelude.{◌≡◌, ◌⊎◌, ℕ, Bool, true, false, Option, Some, None, Result, Ok, Err, reverse}
use Rattle.nq_base.specs.declared.Event.{Event}
use Rattle.nq_keeper.specs.declared.keeper.KeepFault.{KeepFault}
use Rattle.nq_keeper.specs.Keeping.{Reads, StaysOrEnds}
use Rattle.nq_model.specs.protocol.Kept.{Kept}
use Rattle.nq_model.specs.protocol.World.{Head, run}
use Rattle.nq_name_server.specs.Outer.{Outside}
use Rattle.nq_name_server.specs.Serving.{holds_up}
use Rattle.nq_name_server.specs.Outside.{Changes, inner, passes}
use Rattle.nq_world.specs.Playing.{IsAsBefore, Plays}
use Rattle.nq_world.specs.declared.Stepped.{Stepped}
use Rattle.nq_name_server.specs.Around.{IsHeldUp, once_sent, over}
use Rattle.nq_names.specs.Playing.{NamesOver, RunsInner}

-- what a fault of the keeper means for an event
abbrev pub stepped_of : {A : Type 0} → Result A KeepFault → Stepped
stepped_of (Ok taken) = Stepped.Done
stepped_of (Err KeepFault.Failed) = Stepped.Fault
stepped_of (Err KeepFault.Memory) = Stepped.Memory

-- the world with leased directories that these parts show, where nothing is still to go out
abbrev pub outside_of : {K : Type 0} → Head → NamesOver K → Outside
outside_of head w = over (run head (reverse w.ran)) (reverse w.ran) w.around

-- a world is as before, but for its keeper
pub record IsAsBeforeOutside {K : Type 0} (old new : NamesOver K) : Type 0 where
  pub inner : IsAsBefore old.inner new.inner
  pub around : new.around ≡ old.around
  pub ran : new.ran ≡ old.ran
  pub events : new.events ≡ old.events

-- what was taken in and is no event of the inner world led to this world, once what is due has gone out
pub record LeadsBeside {K : Type 0} (head : Head) (old new : NamesOver K) (tells : Option Kept) (to : Outside) : Type 0 where
  pub plays : Plays head (reverse old.ran) new.inner tells
  pub ran : new.ran ≡ old.ran
  pub gone : new.around.gone ≡ old.around.gone
  pub leads : once_sent (run head (reverse old.ran)) (reverse old.ran) new.around ≡ to

-- what taking something in that is no event of the inner world did, by the answer; it was to lead to this world
abbrev pub TakesBeside : {K : Type 0} → Head → Stepped → (old new : NamesOver K) → (told tells : Option Kept) → (to : Outside) → Type 0
TakesBeside head Stepped.Done old new told tells to = LeadsBeside head old new tells to
TakesBeside head Stepped.Fault old new told tells to =
    (tells ≡ told → Plays head (reverse old.ran) new.inner tells) × StaysOrEnds told tells × (new.ran ≡ old.ran) × (new.around ≡ old.around)
TakesBeside head Stepped.Memory old new told tells to =
    Plays head (reverse old.ran) new.inner tells × (tells ≡ told) × (new.ran ≡ old.ran) × (new.around ≡ old.around)
TakesBeside head other old new told tells to = ⊥

-- the delivery of the inner packet of this number was run, if there is one, which was to lead to this world
abbrev pub TakesInner : {K : Type 0} → Head → (number : Option ℕ) → Stepped → (old new : NamesOver K) → (told tells : Option Kept) → (to : Outside) → Type 0
TakesInner head None said old new told tells to = ⊥
TakesInner head (Some number) said old new told tells to =
    (inner (outside_of head old) (Event.Deliver number) ≡ to) × RunsInner head (Event.Deliver number) said old new told tells

-- what taking a packet in did, which is this inner packet or none
abbrev pub TakesIn : {K : Type 0} → Head → (number : Option ℕ) → Stepped → (old new : NamesOver K) → (told tells : Option Kept) → (to : Outside) → Type 0
TakesIn head number said old new told tells to =
    TakesBeside head said old new told tells to ⊎ TakesInner head number said old new told tells to

-- an event that leaves the leases on directories
abbrev pub LeavesLeases : Event → Type 0
LeavesLeases Event.ServerTick = ⊥
LeavesLeases (Event.Crash longest) = ⊥
LeavesLeases other = Unit {0}

-- ---- requests that change a directory

-- Whether a request that changes this, if anything, was held up. Ok true: it was. Ok false: nothing was done, and it is to go to the
-- server as the inner packet that it is. Else it was not taken in.
abbrev pub HoldsUp : {K : Type 0} → Head → Result Bool KeepFault → Option Changes → (old new : NamesOver K) → (told tells : Option Kept) → Type 0
HoldsUp head (Ok true) changes old new told tells =
    (number : ℕ) → TakesBeside head Stepped.Done old new told tells (passes (outside_of head old) number changes)
HoldsUp head (Ok false) changes old new told tells =
    IsAsBeforeOutside old new
    × (tells ≡ told)
    × ((number : ℕ) → inner (outside_of head old) (Event.Deliver number) ≡ passes (outside_of head old) number changes)
HoldsUp head (Err fault) changes old new told tells =
    TakesBeside head (stepped_of {A = Bool} (Err fault)) old new told tells (outside_of head old)

-- what was asked of the table of leases about a request that changes this, and nothing of the keeper
abbrev pub IsHeldFor : {K : Type 0} → (held : Bool) → Changes → (old new : NamesOver K) → Type 0
IsHeldFor held changes old new = IsHeldUp held (holds_up old.around.served changes.who changes.prefix) old.around new.around

-- ---- reading what is kept

-- What reading what is kept did: the world is as before, but for its keeper, which told the same as long as it did not fail.
abbrev pub ReadsKept : {K A : Type 0} → (content : K → Option Kept) → (faults : K → ℕ) → (follows : K → K → Type 0) → Result A KeepFault
    → (old new : NamesOver K) → Type 0
ReadsKept content faults follows result old new =
    IsAsBeforeOutside old new
    × Reads result (content old.inner.server.keeper) (content new.inner.server.keeper) (faults old.inner.server.keeper) (faults new.inner.server.keeper)
    × follows old.inner.server.keeper new.inner.server.keeper

-- ---- lists that are asked for

-- what asking for a list may be answered
abbrev pub IsOfLists : Stepped → Type 0
IsOfLists Stepped.Done = Unit {0}
IsOfLists Stepped.Memory = Unit {0}
IsOfLists other = ⊥
