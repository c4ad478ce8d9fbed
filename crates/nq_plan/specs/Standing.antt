-- For what the bytes of a disk stand as an image of what a server keeps, whose redo record may be open.
use Rattle.std.specs.Prelude.{ℕ, Bool, ◌&&◌, List, Option, Some, None, Result, Ok, Err, length, nat_le, if◌then◌else◌}
use Rattle.nq_image.specs.Kept.{opened}
use Rattle.nq_image.specs.Whole.{has_image_name}
use Rattle.nq_model.specs.protocol.Kept.{Kept}
use Rattle.nq_disk.specs.Whole.{found}
use Rattle.nq_disk.specs.declared.redo.area.Area.{Area}

-- where the redo record stands in an image, and where the largest image ends
abbrev pub image_area : Area
image_area = record { place = 28672; size = 12288; bound = 68202496 }

-- whether bytes are enough for an image and begin as one does
abbrev pub begins_as_image : List ℕ → Bool
begins_as_image bytes = nat_le 40960 (length bytes) && has_image_name bytes

-- for what bytes stand whose record was settled; a wrong field of the record is one of the image
abbrev pub settled_as : Result (List ℕ) ℕ → Option (Result Kept ℕ)
settled_as (Ok bytes) = opened bytes
settled_as (Err place) = Some (Err place)

-- for what bytes stand: a kept state, an image with a wrong field at a place, or no image. A record with an open gate counts
-- first, as if its ranges were written
unfoldable pub stands_as : List ℕ → Option (Result Kept ℕ)
stands_as bytes = if begins_as_image bytes then settled_as (found image_area bytes) else None
