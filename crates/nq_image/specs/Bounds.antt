-- Bytes.
use Rattle.std.specs.Prelude.{◌<◌, ℕ, List, All}

-- numbers that bytes can have
abbrev pub AreBytes : List ℕ → Type 0
AreBytes bytes = All (λ b. b < 256) bytes
