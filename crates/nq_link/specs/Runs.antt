-- A word that is repeated among bytes.
use Rattle.std.specs.Prelude.{◌≡◌, ℕ, ◌+◌, List, take, drop}

-- so many bytes from a place on are the same as those four places further on
abbrev pub IsRepeated : List ℕ → ℕ → ℕ → Type 0
IsRepeated bytes place count = take count (drop place bytes) ≡ take count (drop (place + 4) bytes)
