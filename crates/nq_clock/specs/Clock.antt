-- What a reading of a clock is.
use Rattle.std.specs.Prelude.{◌≡◌, ℕ, ◌≤◌, ◌<◌, ◌^◌, ⊤, List, [], ◌∷◌, Option, Some, None}

-- A clock that tells its readings to come gives the first of them and takes it away, unless it is the last. One that
-- tells none goes on to tell none.
abbrev pub Reads : (reading : ℕ) → (before after : Option (List ℕ)) → Type 0
Reads reading None after = after ≡ None
Reads reading (Some []) after = ⊥
Reads reading (Some (first ∷ [])) after = (reading ≡ first) × (after ≡ Some (first ∷ []))
Reads reading (Some (first ∷ next ∷ later)) after = (reading ≡ first) × (after ≡ Some (next ∷ later))

-- each reading is at least the one before it, and below 2^62
abbrev pub AreRising : (floor : ℕ) → List ℕ → Type 0
AreRising floor [] = ⊤
AreRising floor (reading ∷ later) = (floor ≤ reading) × (reading < 2 ^ 62) × AreRising reading later

-- a clock in memory: the readings to come, and how many were asked for
pub record StoredClock : Type 0 where
  pub readings : List ℕ
  pub reads : ℕ

-- the first reading to come
abbrev pub first_of_readings : List ℕ → ℕ
first_of_readings [] = 0
first_of_readings (reading ∷ later) = reading
