-- Bytes that an object may tell: `Some` of them, or `None` where it tells nothing.
use Rattle.std.specs.Prelude.{ℕ, List, ◌++◌, Option, Some, None}

-- the bytes told, with these in front of them
abbrev pub with_front : List ℕ → Option (List ℕ) → Option (List ℕ)
with_front bytes None = None
with_front bytes (Some told) = Some (bytes ++ told)

-- the bytes told, with these at their end
abbrev pub with_end : Option (List ℕ) → List ℕ → Option (List ℕ)
with_end None bytes = None
with_end (Some told) bytes = Some (told ++ bytes)
