-- A disk on which nothing is kept.
use Rattle.std.specs.Prelude.{◌≡◌, ℕ, List, Option, Some, Ok}
use Rattle.nq_plan.specs.Standing.{stands_as}
use Rattle.nq_image.specs.Nothing.{nothing_kept}

-- bytes stand for the kept state of a server that never booted
abbrev pub StandsForNothing : List ℕ → Type 0
StandsForNothing bytes = stands_as bytes ≡ Some (Ok nothing_kept)

-- a disk tells such bytes
abbrev pub TellsNothing : Option (List ℕ) → Type 0
TellsNothing told = (bytes : List ℕ) × (told ≡ Some bytes) × StandsForNothing bytes
