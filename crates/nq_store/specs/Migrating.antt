-- What a migration makes of an image of version 1.
use Rattle.std.specs.Prelude.{◌≡◌, ℕ, List, Option, Some, true, Result, Ok, Err, slice_index}
use Rattle.nq_plan.specs.Standing.{begins_as_image, image_area, stands_as}
use Rattle.nq_image.specs.Image.{FoundOne}
use Rattle.nq_image.specs.Layout.{piece}
use Rattle.nq_image.specs.Whole.{image_in, of_one}
use Rattle.nq_image.specs.declared.Boots.{Boots}
use Rattle.nq_image.specs.declared.Slot.{Slot}
use Rattle.nq_io.specs.Faults.{Rose}
use Rattle.nq_model.specs.protocol.Kept.{Kept}
use Rattle.nq_disk.specs.Saying.{Each, Only}
use Rattle.nq_disk.specs.Whole.{IsClosed}
use Rattle.nq_store.specs.Storing.{kept_on}
use Rattle.nq_store.specs.declared.fault.Fault.{Fault}
use Rattle.nq_store.specs.declared.fault.Fault.TheVariants.{NotAnImage, BadField, Failed, Memory}

-- bytes of version 1 whose record is closed, and of which these are the first; a stop leaves nothing else
pub record IsOld (head : List ℕ) (may_leave : List ℕ → Type 0) (bytes : List ℕ) : Type 0 where
  pub closed : IsClosed image_area bytes
  pub alone : Only bytes may_leave
  pub named : begins_as_image bytes ≡ true
  pub front : head ≡ piece 0 28672 bytes
  pub one : slice_index bytes 7 ≡ 49

-- what is found in an image are these numbers and these rows of files
pub record IsFoundIn (boots : Boots) (slots : List (Option Slot)) (found : FoundOne) : Type 0 where
  pub boots_are : found.boots ≡ boots
  pub slots_are : found.rows.slots ≡ slots

-- an image of version 1 where this stands, whose record is closed; a stop leaves nothing else
pub record IsOldImage (found : FoundOne) (may_leave : List ℕ → Type 0) (bytes : List ℕ) : Type 0 where
  pub image : image_in bytes ≡ Some (Ok (of_one found))
  pub closed : IsClosed image_area bytes
  pub alone : Only bytes may_leave

-- the disk tells bytes of version 2 that stand for the same, some kept state, whose record is closed; a stop leaves nothing else
pub record IsMigrated (bytes : List ℕ) (tells : Option (List ℕ)) (may_leave : List ℕ → Type 0) : Type 0 where
  pub now : List ℕ
  pub told : tells ≡ Some now
  pub closed : IsClosed image_area now
  pub alone : Only now may_leave
  pub named : begins_as_image now ≡ true
  pub two : slice_index now 7 ≡ 50
  pub same : stands_as now ≡ stands_as bytes
  pub stands : (kept : Kept) × (stands_as now ≡ Some (Ok kept))

-- an image that stands for a kept state becomes one of version 2; for one that does not the least field that is wrong is named
abbrev pub Migrates : Result Unit Fault → (bytes : List ℕ) → (tells : Option (List ℕ)) → (may_leave : List ℕ → Type 0) → Type 0
Migrates (Ok done) bytes tells may_leave = IsMigrated bytes tells may_leave
Migrates (Err NotAnImage) bytes tells may_leave = ⊥
Migrates (Err (BadField place)) bytes tells may_leave = (stands_as bytes ≡ Some (Err place)) × (tells ≡ Some bytes)
Migrates (Err Failed) bytes tells may_leave = Unit {0}
Migrates (Err Memory) bytes tells may_leave = Unit {0}

-- whatever a stop leaves stands for the same kept state
abbrev pub LeavesSameKept : (bytes : List ℕ) → (leaves : List ℕ → Type 0) → Type 0
LeavesSameKept bytes leaves = Each leaves (λ image. kept_on image ≡ kept_on bytes)

-- a call that writes fails because the disk failed, and then its count of faults rises, or for want of memory
abbrev pub CountsWriting : Result Unit Fault → (before now : ℕ) → Type 0
CountsWriting (Ok done) before now = now ≡ before
CountsWriting (Err NotAnImage) before now = ⊥
CountsWriting (Err (BadField place)) before now = ⊥
CountsWriting (Err Failed) before now = Rose before now
CountsWriting (Err Memory) before now = now ≡ before
