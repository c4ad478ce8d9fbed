-- What several calls of a disk leave.
use Rattle.std.specs.Prelude.{◌≡◌, ℕ, List, Option, Some}
use Rattle.std.specs.Option.{ForSome}

-- something is told still, where something was told
abbrev pub TellsOn : (told tells : Option (List ℕ)) → Type 0
TellsOn told tells = ForSome told (λ disk. (now : List ℕ) × (tells ≡ Some now))

-- a stop leaves these bytes alone
abbrev pub Only : List ℕ → (List ℕ → Type 0) → Type 0
Only disk may_leave = (image : List ℕ) → may_leave image → image ≡ disk

-- each stop leaves bytes that have a property
abbrev pub Each : (List ℕ → Type 0) → (List ℕ → Type 0) → Type 0
Each leaves holds = (image : List ℕ) → leaves image → holds image
