-- What is read of an image of version 2 into memory.
use Rattle.std.specs.Prelude.{◌≡◌, ◌⊎◌, ℕ, ◌+◌, List, [], ◌∷◌, Option, Some, None, Result, Ok, Err, drop, length, slice_index_or, take}
use Rattle.nq_image.specs.Check.{tested}
use Rattle.nq_image.specs.Heads.{front_checks, front_of}
use Rattle.nq_image.specs.Image.{FoundTwo}
use Rattle.nq_image.specs.Layout.{block_place, piece}
use Rattle.nq_image.specs.Rows.{blocks_of}
use Rattle.nq_image.specs.Standing.{PlacedFile, standing_in}
use Rattle.nq_image.specs.declared.heads.Front.{Front}
use Rattle.nq_image.specs.declared.fault.ImageFault.{ImageFault}
use Rattle.nq_image.specs.declared.fault.ImageFault.TheVariants.{NotAnImage, BadField, Memory}
use Rattle.nq_image.specs.declared.rows.Slot.{Slot}
use Rattle.nq_plan.specs.Held.{HeldTables}

-- these are the numbers of an image, its first bytes up to the record, the bytes of its tables, as many as there are, and its length
pub record ArePartsOf (bytes : List ℕ) (front : Front) (head window : List ℕ) (size : ℕ) : Type 0 where
  pub front_is : tested (front_checks (piece 0 64 bytes)) (front_of (piece 0 64 bytes)) ≡ Ok front
  pub head_is : head ≡ piece 0 28672 bytes
  pub window_is : window ≡ piece (block_place front.tables) 1052672 bytes
  pub size_is : size ≡ length bytes

-- what is held of what was found in an image: where it stands, and the marks
abbrev pub held_in : (bytes : List ℕ) → FoundTwo → HeldTables
held_in bytes found = record { standing = standing_in bytes found; marks = found.tables.marks }

-- a read answers what is held of what an image tells, or the place of the first wrong field. Where memory is refused it tells nothing
abbrev pub HoldsIn : (bytes : List ℕ) → Result HeldTables ImageFault → (told : Result FoundTwo ℕ) → Type 0
HoldsIn bytes (Ok held) told = (found : FoundTwo) × (told ≡ Ok found) × (held ≡ held_in bytes found)
HoldsIn bytes (Err (BadField place)) told = told ≡ Err place
HoldsIn bytes (Err NotAnImage) told = ⊥
HoldsIn bytes (Err Memory) told = Unit {0}

-- a fault whose place is counted from another one on. Where that number is too great, it is told as want of memory
abbrev pub IsMoved : (start : ℕ) → (fault moved : ImageFault) → Type 0
IsMoved start (BadField place) moved = (moved ≡ BadField (start + place)) ⊎ (moved ≡ Memory)
IsMoved start NotAnImage moved = moved ≡ NotAnImage
IsMoved start Memory moved = moved ≡ Memory

-- the file of a row with this number, with its id and its blocks; none where the row is unused
abbrev pub row_from : (number : ℕ) → Option Slot → (id : ℕ) → (blocks : List ℕ) → Option PlacedFile
row_from number None id blocks = None
row_from number (Some slot) id blocks = Some (record { id = id; name = slot.name; rev = slot.rev; slot = number; blocks = blocks })

-- the files of rows, with their ids, and their blocks, which stand one behind another
unfoldable pub rows_of : (number : ℕ) → List (Option Slot) → (ids blocks : List ℕ) → List (Option PlacedFile)
rows_of number [] ids blocks = []
rows_of number (slot ∷ slots) ids blocks =
    row_from number slot (slice_index_or ids 0 0) (take (blocks_of slot) blocks)
    ∷ rows_of (number + 1) slots (drop 1 ids) (drop (blocks_of slot) blocks)
