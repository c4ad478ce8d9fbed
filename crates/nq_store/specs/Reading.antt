-- What a read of an image answers whose record is closed.
use Rattle.std.specs.Prelude.{◌≡◌, ℕ, true, List, Some, Result, Ok, Err, slice_index}
use Rattle.nq_plan.specs.Standing.{begins_as_image, image_area, stands_as}
use Rattle.nq_image.specs.Heads.{version_of}
use Rattle.nq_image.specs.declared.ImageFault.{ImageFault}
use Rattle.nq_image.specs.declared.ImageFault.TheVariants.{NotAnImage, BadField, Memory}
use Rattle.nq_image.specs.declared.Version.{Version}
use Rattle.nq_plan.specs.Held.{HeldTables, IsHeldOf}
use Rattle.nq_disk.specs.Whole.{IsClosed}

-- bytes that begin as an image whose record is closed
pub record IsClosedImage (bytes : List ℕ) : Type 0 where
  pub closed : IsClosed image_area bytes
  pub named : begins_as_image bytes ≡ true

-- such bytes of version 2
pub record IsClosedTwo (bytes : List ℕ) : Type 0 where
  pub image : IsClosedImage bytes
  pub two : version_of (slice_index bytes 7) ≡ Some Version.Two

-- a read answers what is held of an image, or for which wrong field the bytes are none. Where memory is refused it tells nothing
abbrev pub ReadsImage : (bytes : List ℕ) → Result HeldTables ImageFault → Type 0
ReadsImage bytes (Ok held) = IsHeldOf bytes held
ReadsImage bytes (Err (BadField place)) = stands_as bytes ≡ Some (Err place)
ReadsImage bytes (Err NotAnImage) = ⊥
ReadsImage bytes (Err Memory) = Unit {0}
