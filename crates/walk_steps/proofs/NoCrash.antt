-- Schedules with few boots keep within bounds.
use Rattle.std.proofs.Common.{◌≡◌, ℕ, zero, suc, Bool, true, false, List, [], ◌∷◌, ◌++◌, arith}
use Rattle.std.specs.Prelude.{All}
use Rattle.nq_base.specs.declared.Event.{Event}
use Rattle.nq_model.specs.laws.Bounds.{BootsWithin, KeepsBounds}
use Rattle.nq_model.specs.protocol.World.{Head}

-- a schedule within bounds was so before its last event
pub bounds-before : (most : ℕ) (head : Head) (e : Event) (earlier : List Event) → KeepsBounds most head (e ∷ earlier) → KeepsBounds most head earlier
bounds-before most head e earlier b =
    record { hosts = b.hosts; first_long = b.first_long; first_short = b.first_short; boots = λ k d below. b.boots (suc k) d (omega arith) }

-- one event after the other
pub one-first : (most : ℕ) (e : Event) (events : List Event) → BootsWithin most e → All (BootsWithin most) events → All (BootsWithin most) (e ∷ events)
one-first most e events here rest zero d below = here
one-first most e events here rest (suc k) d below = rest k d (omega arith)

-- whether no event is a crash
abbrev pub no_crash : List Event → Bool
no_crash [] = true
no_crash (Event.Crash longest ∷ events) = false
no_crash (other ∷ events) = no_crash events

pub no-crash-within : (most : ℕ) (events : List Event) → no_crash events ≡ true → All (BootsWithin most) events
no-crash-within most [] h = λ k d below. absurd (omega arith)
no-crash-within most (Event.Crash longest ∷ events) h = absurd (cc)
no-crash-within most (e ∷ events) h = one-first most e events tt (no-crash-within most events h)

-- and what came earlier may have boots
pub no-crash-after : (most : ℕ) (events earlier : List Event) → no_crash events ≡ true → All (BootsWithin most) earlier
    → All (BootsWithin most) (events ++ earlier)
no-crash-after most [] earlier h rest = rest
no-crash-after most (Event.Crash longest ∷ events) earlier h rest = absurd (cc)
no-crash-after most (e ∷ events) earlier h rest = one-first most e (events ++ earlier) tt (no-crash-after most events earlier h rest)
