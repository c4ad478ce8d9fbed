-- What a turn does to a clock.
use Rattle.std.specs.Prelude.{◌≡◌, ℕ, ◌≤◌, ◌<◌, ◌^◌, List, Option}
use Rattle.nq_io.specs.Faults.{count_up}
use Rattle.nq_clock.specs.Clock.{Reads}

-- a clock as it is told: no later reading is below its floor, the readings to come, where it tells them, and how many readings it was
-- asked for
pub record ClockTold : Type 0 where
  pub floor : ℕ
  pub readings : Option (List ℕ)
  pub reads : ℕ

-- a clock as it is told
abbrev pub clock_told : {C : Type 0} → (floor : C → ℕ) → (readings : C → Option (List ℕ)) → (reads : C → ℕ) → C → ClockTold
clock_told floor readings reads clock = record { floor = floor clock; readings = readings clock; reads = reads clock }

-- one reading of a clock, and no second one: it is no less than the floor before it, no more than the floor after it, and below 2^62
pub record ReadsOnce (reading : ℕ) (clock clock' : ClockTold) : Type 0 where
  pub rises : clock.floor ≤ reading
  pub floor : reading ≤ clock'.floor
  pub below : reading < 2 ^ 62
  pub told : Reads reading clock.readings clock'.readings
  pub once : clock'.reads ≡ count_up clock.reads
