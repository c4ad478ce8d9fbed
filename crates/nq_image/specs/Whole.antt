-- An image of either version: the eighth byte says which.
use Rattle.std.specs.Prelude.{◌≡◌, ◌≤◌, ℕ, Bool, ◌&&◌, List, [], ◌∷◌, Option, Some, None, Result, Ok, length, nat_eq, nat_le, slice_index_or, sum_by}
use Rattle.std.specs.Prelude.{if◌then◌else◌}
use Rattle.std.specs.Cmp.Lexicographic.{pointwise}
use Rattle.nq_image.specs.declared.rows.Version.{Version}
use Rattle.nq_image.specs.declared.whole.Image.{Image}
use Rattle.nq_image.specs.Heads.{version_of}
use Rattle.nq_image.specs.Image.{FoundOne, FoundTwo, ◌>>=◌, image_one, image_two, no_marks}
use Rattle.nq_image.specs.Layout.{piece}
use Rattle.nq_image.specs.Rows.{blocks_of}
use Rattle.nq_image.specs.Seen.{seen_one, seen_two}

-- what stands in an image of one of the versions
pub data Found : Type 0 where
  of_one : FoundOne → Found
  of_two : FoundTwo → Found

-- whether the first seven bytes are the characters NQNFSIM
abbrev pub has_image_name : List ℕ → Bool
has_image_name bytes = pointwise nat_eq (piece 0 7 bytes) (78 ∷ 81 ∷ 78 ∷ 70 ∷ 83 ∷ 73 ∷ 77 ∷ [])

-- what stands in bytes as an image of a version
abbrev pub in_version : Version → List ℕ → Result Found ℕ
in_version Version.One bytes = image_one bytes >>= λ found. Ok (of_one found)
in_version Version.Two bytes = image_two (no_marks 16641) bytes >>= λ found. Ok (of_two found)

-- the same, where there is a version
abbrev pub in_versions : Option Version → List ℕ → Option (Result Found ℕ)
in_versions None bytes = None
in_versions (Some version) bytes = Some (in_version version bytes)

-- what stands in an image; None where the bytes are none: they are too few, or have another name or version
unfoldable pub image_in : List ℕ → Option (Result Found ℕ)
image_in bytes =
    if nat_le 40960 (length bytes) && has_image_name bytes then in_versions (version_of (slice_index_or bytes 7 0)) bytes else None

-- what was read
abbrev pub seen : Image → Found
seen (Image.One image) = of_one (seen_one image)
seen (Image.Two image) = of_two (seen_two image)

-- an image has all rows of files, with at most 16,384 blocks together, and in version 2 an id for each
abbrev pub HasAllRows : Image → Type 0
HasAllRows (Image.One image) = (length image.rows.slots.items ≡ 256) × (sum_by blocks_of image.rows.slots.items ≤ 16384)
HasAllRows (Image.Two image) =
    (length image.rows.slots.items ≡ 256) × (sum_by blocks_of image.rows.slots.items ≤ 16384) × (length image.tables.ids.items ≡ 256)
