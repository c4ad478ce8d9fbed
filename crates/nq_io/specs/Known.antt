-- Bytes of a std reader or writer that are known, and whether they are told.
use Rattle.std.specs.Prelude.{◌≡◌, ℕ, Bool, true, false, List, Option, None, IsSome}

-- the known bytes, where they are to be told
abbrev pub told_where : Bool → (known : Option (List ℕ)) → Option (List ℕ)
told_where true known = known
told_where false known = None

-- only known bytes are told
abbrev pub TellsKnown : Bool → (known : Option (List ℕ)) → Type 0
TellsKnown tells known = tells ≡ true → IsSome known
