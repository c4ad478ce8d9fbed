-- The boot of a server. Below, `told` is what the keeper told of its content before the call and `tells` is what it tells after
-- it; `before` and `count` are its counts of faults.
use Rattle.std.specs.Prelude.{◌≡◌, ◌<◌, ◌≤◌, ◌^◌, ℕ, ◌+◌, Option, Some, Result, Ok, Err}
use Rattle.std.specs.Option.{ForSome}
use Rattle.nq_keeper.specs.declared.requests.boot.starting.StartFault.{StartFault}
use Rattle.nq_keeper.specs.declared.requests.boot.starting.StartFault.TheVariants as start
use Rattle.nq_keeper.specs.declared.requests.boot.starting.Started.{Started}
use Rattle.nq_keeper.specs.declared.requests.boot.starting.Started.TheVariants as begins
use Rattle.nq_keeper.specs.Booting.{IsOfTerm, last_boot, started_of}
use Rattle.nq_io.specs.Faults.{Rose}
use Rattle.nq_keeper.specs.Keeping.{StaysOrEnds}
use Rattle.nq_model.specs.protocol.Kept.{Kept}
use Rattle.nq_model.specs.protocol.Profile.{shortest_term, longest_term}
use Rattle.nq_model.specs.protocol.ServerStep.{booted}
use Rattle.nq_model.specs.protocol.Table.{Table, empty_table}
use Rattle.nq_server.specs.declared.booting.Begun.{Begun}
use Rattle.nq_server.specs.declared.received.Received.{Received}
use Rattle.nq_server.specs.declared.state.Phase.{Phase}
use Rattle.nq_server.specs.declared.state.Phase.TheVariants.{Serving, Recovering}

-- a boot over this kept state began: its number was kept, and it has an empty table
pub record BeginsOver (longest time : ℕ) (begun : Begun) (kept : Kept) (tells : Option Kept) : Type 0 where
  pub number : kept.boot < last_boot
  pub started : begun.started ≡ started_of kept longest time
  pub table : begun.table ≡ empty_table (kept.boot + 1)
  pub waits : begun.waits ≡ (booted kept longest).longest
  pub keeps : tells ≡ Some (booted kept longest)

-- a boot began at a time that a clock shows, with a longest term that there may be, and has no row
pub record IsFitToBegin (longest time : ℕ) (begun : Begun) : Type 0 where
  pub long : shortest_term ≤ longest
  pub short : longest ≤ longest_term
  pub early : time < 2 ^ 62
  pub term : IsOfTerm longest begun.started
  pub empty : begun.table ≡ empty_table begun.table.boot

-- how a boot begins, by the answer: it is spent where no number is left
abbrev pub Begins : (longest time : ℕ) → Result Begun StartFault → (told tells : Option Kept) → (before count : ℕ) → Type 0
Begins longest time (Ok begun) told tells before count =
    ForSome told (λ kept. BeginsOver longest time begun kept tells) × (count ≡ before)
Begins longest time (Err start.Spent) told tells before count =
    ForSome told (λ kept. kept.boot ≡ last_boot) × (tells ≡ told) × (count ≡ before)
Begins longest time (Err start.Memory) told tells before count = (tells ≡ told) × (count ≡ before)
Begins longest time (Err start.Failed) told tells before count = StaysOrEnds told tells × Rose before count

-- what a boot that did not begin means for an event
abbrev pub after_fault : StartFault → Received
after_fault start.Failed = Received.Fault
after_fault start.Memory = Received.Memory
after_fault start.Spent = Received.Spent

-- the phase of a boot that began, with the table with which the last boot served, where it is known
abbrev pub phase_begun : Started → (last : Option Table) → Phase
phase_begun (begins.Serving boot) last = Serving boot
phase_begun (begins.Recovering recovery) last = Recovering (Some recovery) last

-- a phase with this table in mind, where it is one that recovers
abbrev pub with_last : Phase → (last : Option Table) → Phase
with_last (Serving boot) last = Serving boot
with_last (Recovering recovery before) last = Recovering recovery last
