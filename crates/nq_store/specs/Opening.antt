-- What the opening of a store answers.
use Rattle.std.specs.Prelude.{◌≡◌, ◌⊎◌, ℕ, true, List, Option, Some, None, Result, Ok, Err, slice_index}
use Rattle.std.specs.Option.{ForSome}
use Rattle.nq_plan.specs.Standing.{begins_as_image, image_area, stands_as}
use Rattle.nq_io.specs.Faults.{Rose}
use Rattle.nq_disk.specs.Saying.{Each}
use Rattle.nq_disk.specs.Whole.{found}
use Rattle.nq_store.specs.Storing.{kept_on}
use Rattle.nq_store.specs.declared.fault.Fault.{Fault}
use Rattle.nq_store.specs.declared.fault.Fault.TheVariants.{NotAnImage, BadField, Failed, Memory}
use Rattle.nq_store.specs.declared.fault.OpenFault.{OpenFault}
use Rattle.nq_store.specs.declared.fault.OpenFault.TheVariants as opening

-- the count of faults rises where the disk failed, and stays else
abbrev pub CountsFault : {X : Type 0} → Result X Fault → (before now : ℕ) → Type 0
CountsFault (Ok found) before now = now ≡ before
CountsFault (Err NotAnImage) before now = now ≡ before
CountsFault (Err (BadField place)) before now = now ≡ before
CountsFault (Err Failed) before now = Rose before now
CountsFault (Err Memory) before now = now ≡ before

-- a call that calls no disk does not answer that one failed
abbrev pub FailsNot : {X : Type 0} → Result X Fault → Type 0
FailsNot (Ok found) = Unit {0}
FailsNot (Err NotAnImage) = Unit {0}
FailsNot (Err (BadField place)) = Unit {0}
FailsNot (Err Failed) = ⊥
FailsNot (Err Memory) = Unit {0}

-- a fault, with the disk that is handed back
abbrev pub open_fault : {D : Type 0} → D → Fault → OpenFault D
open_fault disk NotAnImage = opening.NotAnImage disk
open_fault disk (BadField place) = opening.BadField disk place
open_fault disk Failed = opening.Failed disk
open_fault disk Memory = opening.Memory disk

-- the count of faults of a disk that is opened, or handed back, rises where the disk failed, and stays else
abbrev pub AnswersOpen : {X D : Type 0} → (X → D) → (faults : D → ℕ) → Result X (OpenFault D) → (disk : D) → Type 0
AnswersOpen held faults (Ok opened) disk = faults (held opened) ≡ faults disk
AnswersOpen held faults (Err (opening.NotAnImage back)) disk = faults back ≡ faults disk
AnswersOpen held faults (Err (opening.BadField back place)) disk = faults back ≡ faults disk
AnswersOpen held faults (Err (opening.Failed back)) disk = Rose (faults disk) (faults back)
AnswersOpen held faults (Err (opening.Memory back)) disk = faults back ≡ faults disk

-- a disk that is opened, or handed back, is the one that was handed in, after some of its calls
abbrev pub FollowsOpen : {X D : Type 0} → (X → D) → (follows : D → D → Type 0) → Result X (OpenFault D) → (disk : D) → Type 0
FollowsOpen held follows (Ok opened) disk = follows disk (held opened)
FollowsOpen held follows (Err (opening.NotAnImage back)) disk = follows disk back
FollowsOpen held follows (Err (opening.BadField back place)) disk = follows disk back
FollowsOpen held follows (Err (opening.Failed back)) disk = follows disk back
FollowsOpen held follows (Err (opening.Memory back)) disk = follows disk back

-- a disk is refused as no image, or for a field, where it stands for no kept state
abbrev pub SaysWrong : {X D : Type 0} → Result X (OpenFault D) → (told : Option (List ℕ)) → Type 0
SaysWrong (Ok opened) told = Unit {0}
SaysWrong (Err (opening.NotAnImage back)) told = ForSome told (λ bytes. stands_as bytes ≡ None)
SaysWrong (Err (opening.BadField back place)) told = ForSome told (λ bytes. stands_as bytes ≡ Some (Err place))
SaysWrong (Err (opening.Failed back)) told = Unit {0}
SaysWrong (Err (opening.Memory back)) told = Unit {0}

-- bytes that began as an image whose record was open became these, with the ranges of the record written
pub record WroteRecord (bytes now : List ℕ) : Type 0 where
  pub named : begins_as_image bytes ≡ true
  pub gate : slice_index bytes 28672 ≡ 1
  pub same : found image_area now ≡ found image_area bytes

-- bytes are as they were, but that the ranges of an open record may have been written
abbrev pub IsSettledOf : (bytes now : List ℕ) → Type 0
IsSettledOf bytes now = (now ≡ bytes) ⊎ WroteRecord bytes now

-- a disk tells its bytes so
abbrev pub TellsSettled : (bytes : List ℕ) → (tells : Option (List ℕ)) → Type 0
TellsSettled bytes tells = (now : List ℕ) × (tells ≡ Some now) × IsSettledOf bytes now

-- a disk that is handed back as no image, or for a wrong field, has the bytes that it had
abbrev pub StaysBack : {D : Type 0} → (told : D → Option (List ℕ)) → OpenFault D → (bytes : List ℕ) → Type 0
StaysBack told (opening.NotAnImage back) bytes = TellsSettled bytes (told back)
StaysBack told (opening.BadField back place) bytes = TellsSettled bytes (told back)
StaysBack told (opening.Failed back) bytes = Unit {0}
StaysBack told (opening.Memory back) bytes = Unit {0}

abbrev pub StaysRefused : {X D : Type 0} → (told : D → Option (List ℕ)) → Result X (OpenFault D) → (bytes : List ℕ) → Type 0
StaysRefused told (Ok opened) bytes = Unit {0}
StaysRefused told (Err fault) bytes = StaysBack told fault bytes

-- the disk that a fault hands back
abbrev pub back_of : {D : Type 0} → OpenFault D → D
back_of (opening.NotAnImage back) = back
back_of (opening.BadField back place) = back
back_of (opening.Failed back) = back
back_of (opening.Memory back) = back

-- the disk that is opened, or handed back
abbrev pub disk_of : {X D : Type 0} → (X → D) → Result X (OpenFault D) → D
disk_of held (Ok opened) = held opened
disk_of held (Err fault) = back_of fault

-- a stop leaves what one before might have left, or bytes in which the same is kept as in those that the disk told
abbrev pub LeavesLike : (told : Option (List ℕ)) → (before leaves : List ℕ → Type 0) → Type 0
LeavesLike told before leaves = ForSome told (λ bytes. Each leaves (λ image. before image ⊎ (kept_on image ≡ kept_on bytes)))
