-- The bytes of a disk: what a write leaves of them, and what a stop may leave.
use Rattle.std.specs.Prelude.{◌≡◌, ◌⊎◌, ℕ, ◌+◌, ◌-◌, ◌<◌, ◌≤◌, max, All, List, [], ◌∷◌, ◌++◌, length, take, drop, replicate, slice_index}

-- each of these is a byte
abbrev pub AreBytes : List ℕ → Type 0
AreBytes bytes = All (λ byte. byte < 256) bytes

-- the bytes, with zeros behind them up to a place
abbrev pub padded : ℕ → List ℕ → List ℕ
padded place disk = disk ++ replicate (place - length disk) 0

-- A disk after these bytes were written at a place. Where that is past its end, zeros stand between. No bytes change nothing.
unfoldable pub written : ℕ → List ℕ → List ℕ → List ℕ
written place [] disk = disk
written place (byte ∷ bytes) disk = take place (padded place disk) ++ ((byte ∷ bytes) ++ drop (place + length (byte ∷ bytes)) disk)

-- what a stop may leave after n bytes were written at a place: any bytes in that range and past the old end, and the same elsewhere
pub record Torn (place n : ℕ) (old new : List ℕ) : Type 0 where
  pub no_shorter : length old ≤ length new
  pub no_longer : length new ≤ max (length old) (place + n)
  pub outside : (k : ℕ) → k < length old → (k < place) ⊎ (place + n ≤ k) → slice_index new k ≡ slice_index old k
