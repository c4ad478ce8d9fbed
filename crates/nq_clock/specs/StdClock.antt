-- The machine's clock, as contracts see it. Its moments are told in nanoseconds since one of its own.
use Rattle.std.specs.Prelude.{ℕ, ◌-◌, ◌/◌, ◌^◌, max, min, Option, Some, None, unwrap_or}
use Rattle.nq_io.specs.Faults.{count_up}

-- the first moment that the machine gave, the moment that it gave at the last reading, if it did not fail then, the last reading, and how
-- many were asked for
pub record SeenClock : Type 0 where
  pub began : Option ℕ
  pub machine : Option ℕ
  pub last : ℕ
  pub reads : ℕ

-- a clock that begins at the moment that the machine gives
abbrev pub begun : Option ℕ → SeenClock
begun machine = record { began = machine; machine = machine; last = 0; reads = 0 }

-- the whole seconds from one moment to another, and at most 2^62 - 1
abbrev pub seconds_between : (began now : ℕ) → ℕ
seconds_between began now = min ((now - began) / 1_000_000_000) (2 ^ 62 - 1)

-- A clock after a reading at which the machine gave this moment: the whole seconds since the first moment, and no less than before.
-- Where the machine failed, the last reading stays.
abbrev pub after_reading : (machine : Option ℕ) → SeenClock → SeenClock
after_reading None clock = record { began = clock.began; machine = None; last = clock.last; reads = count_up clock.reads }
after_reading (Some now) clock = record {
  began = Some (unwrap_or clock.began now);
  machine = Some now;
  last = max clock.last (seconds_between (unwrap_or clock.began now) now);
  reads = count_up clock.reads;
}
