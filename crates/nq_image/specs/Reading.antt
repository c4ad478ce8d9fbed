-- What a call that reads a part of an image answers.
use Rattle.std.specs.Prelude.{◌≡◌, ℕ, Option, Some, None, Result, Ok, Err}
use Rattle.nq_image.specs.declared.fault.ImageFault.{ImageFault}
use Rattle.nq_image.specs.declared.fault.ImageFault.TheVariants.{NotAnImage, BadField, Memory}

-- a call answers, seen by view, what the part's checks tell: its value, or the place of the first wrong field. Where memory
-- is refused it tells nothing
abbrev pub Reads : {X Y : Type 0} → (X → Y) → Result X ImageFault → Result Y ℕ → Type 0
Reads view (Ok x) told = told ≡ Ok (view x)
Reads view (Err (BadField place)) told = told ≡ Err place
Reads view (Err NotAnImage) told = ⊥
Reads view (Err Memory) told = Unit {0}

-- a call answers, seen by view, for what bytes stand: no image, an image with a wrong field, or a value. Where memory is
-- refused it tells nothing
abbrev pub Opens : {X Y : Type 0} → (X → Y) → Result X ImageFault → Option (Result Y ℕ) → Type 0
Opens view (Ok x) told = told ≡ Some (Ok (view x))
Opens view (Err (BadField place)) told = told ≡ Some (Err place)
Opens view (Err NotAnImage) told = told ≡ None
Opens view (Err Memory) told = Unit {0}
