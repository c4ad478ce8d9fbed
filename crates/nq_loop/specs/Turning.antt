-- The turns of a loop, one after another. The events of a run are told with the newest first.
use Rattle.std.specs.Prelude.{◌≡◌, ◌⊎◌, ◌≤◌, ◌<◌, ◌&&◌, ℕ, Bool, true, false, not, List, Result, Ok, Err, nat_le, slice_get, zero, suc}
use Rattle.nq_base.specs.declared.Event.{Event}
use Rattle.nq_loop.specs.Counting.{begun_in}
use Rattle.nq_loop.specs.Looping.{Moment, TakesTurn, is_busy}
use Rattle.nq_loop.specs.declared.turns.Halt.{Halt}
use Rattle.nq_model.specs.protocol.World.{Head, run}
use Rattle.nq_clock.specs.Clocks.{ClockTold}

-- a loop between two turns: its moment, and its clock
pub record Between : Type 0 where
  pub moment : Moment
  pub clock : ClockTold

-- whether a host has begun its three calls, and none is under way
abbrev pub is_through : Head → List Event → (host : ℕ) → Bool
is_through head events host = nat_le 3 (begun_in host events) && not (is_busy (slice_get (run head events).clients host))

-- whether this is so of each number below a count
abbrev pub all_below : (count : ℕ) → (ℕ → Bool) → Bool
all_below zero test = true
all_below (suc count) test = all_below count test && test count

-- whether all calls of all hosts were answered
abbrev pub all_answered : Head → List Event → Bool
all_answered head events = all_below head.hosts (is_through head events)

-- a call is left, and this turn did not stop
abbrev pub GoesOn : Head → (at after : Between) → Type 0
GoesOn head at after =
    (all_answered head at.moment.events ≡ false)
    × (moved : Bool) × TakesTurn head (Ok moved) at.clock after.clock at.moment after.moment

-- so many turns one after another, none of which stopped, each while a call was left
abbrev pub Goes : Head → (count : ℕ) → (at after : Between) → Type 0
Goes head zero at after = after ≡ at
Goes head (suc count) at after =
    (between : Between) × Goes head count at between × GoesOn head between after

-- turns were taken until all calls were answered, or so many turns were taken
pub record Ran (head : Head) (turns : ℕ) (at after : Between) : Type 0 where
  pub count : ℕ
  pub within : count ≤ turns
  pub goes : Goes head count at after
  pub ends : (count ≡ turns) ⊎ (all_answered head after.moment.events ≡ true)

-- fewer turns than so many were taken, and one more, which stopped so
pub record Stops (head : Head) (turns : ℕ) (why : Halt) (at after : Between) : Type 0 where
  pub count : ℕ
  pub fewer : count < turns
  pub between : Between
  pub goes : Goes head count at between
  pub left : all_answered head between.moment.events ≡ false
  pub last : TakesTurn head (Err why) between.clock after.clock between.moment after.moment

-- what taking so many turns at most did: none stopped, or the last one did
abbrev pub TakesTurns : Head → (turns : ℕ) → Result Unit Halt → (at after : Between) → Type 0
TakesTurns head turns (Ok done) at after = Ran head turns at after
TakesTurns head turns (Err why) at after = Stops head turns why at after

-- whether a host is through that began so many of its calls, and has one under way or not
abbrev pub is_over : (begun : ℕ) → (busy : Bool) → Bool
is_over begun busy = nat_le 3 begun && not busy
