-- What a read of the image on a disk answers, whose record is closed.
use Rattle.std.specs.Prelude.{◌≡◌, ◌∷◌, [], ℕ, Bool, true, List, Option, Some, None, Result, Ok, Err, nat_eq}
use Rattle.std.specs.Cmp.Lexicographic.{pointwise}
use Rattle.nq_plan.specs.Standing.{begins_as_image, image_area, stands_as}
use Rattle.nq_image.specs.Check.{tested}
use Rattle.nq_image.specs.Heads.{front_checks, front_of}
use Rattle.nq_image.specs.Layout.{piece}
use Rattle.nq_image.specs.Standing.{kept_at}
use Rattle.nq_image.specs.declared.Front.{Front}
use Rattle.nq_model.specs.protocol.Change.{IsWithinBounds}
use Rattle.nq_plan.specs.Held.{HeldTables, IsHeldOf}
use Rattle.nq_disk.specs.Calling.{LeavesNoMore}
use Rattle.nq_disk.specs.Saying.{Only}
use Rattle.nq_disk.specs.Whole.{IsClosed}
use Rattle.nq_store.specs.Reading.{IsClosedTwo}
use Rattle.nq_store.specs.Opening.{IsSettledOf}
use Rattle.nq_store.specs.Storing.{IsKeptOn}
use Rattle.nq_store.specs.declared.fault.Fault.{Fault}
use Rattle.nq_store.specs.declared.fault.Fault.TheVariants.{NotAnImage, BadField, Failed, Memory}

-- a call that judges no image answers what has a property, or that the disk failed or memory was refused
abbrev pub Gives : {X : Type 0} → Result X Fault → (X → Type 0) → Type 0
Gives (Ok x) P = P x
Gives (Err NotAnImage) P = ⊥
Gives (Err (BadField place)) P = ⊥
Gives (Err Failed) P = Unit {0}
Gives (Err Memory) P = Unit {0}

-- between these two moments a disk was only asked: it tells the same, and a stop leaves no more than one before might have left
pub record OnlyAsked {D : Type 0} (told : D → Option (List ℕ)) (goes : D → D → Type 0) (may_leave : D → List ℕ → Type 0) (left : D → D → List ℕ
    → Type 0) (first last : D) : Type 0 where
  pub same : told last ≡ told first
  pub follows : goes first last
  pub leaves : LeavesNoMore (may_leave first) (left first last)

-- whether these are the characters NQNFSIM
abbrev pub is_name : List ℕ → Bool
is_name name = pointwise nat_eq name (78 ∷ 81 ∷ 78 ∷ 70 ∷ 83 ∷ 73 ∷ 77 ∷ [])

-- bytes of version 2 whose record is closed, of which these are the first
pub record IsHeadOf (bytes head : List ℕ) : Type 0 where
  pub closed : IsClosedTwo bytes
  pub front : head ≡ piece 0 28672 bytes

-- and these are the numbers in them
pub record AreFrontOf (bytes head : List ℕ) (front : Front) : Type 0 where
  pub head_is : IsHeadOf bytes head
  pub front_is : tested (front_checks (piece 0 64 bytes)) (front_of (piece 0 64 bytes)) ≡ Ok front

-- the tables in memory are those of an image, which is within the bounds of a kept state; or the bytes are none for this wrong field
abbrev pub Loads : Result HeldTables Fault → (bytes : List ℕ) → Type 0
Loads (Ok held) bytes = IsHeldOf bytes held × IsWithinBounds (kept_at bytes held.standing)
Loads (Err NotAnImage) bytes = ⊥
Loads (Err (BadField place)) bytes = stands_as bytes ≡ Some (Err place)
Loads (Err Failed) bytes = Unit {0}
Loads (Err Memory) bytes = Unit {0}

-- bytes that begin as an image, whose record is closed; a stop leaves nothing else
pub record IsShut (may_leave : List ℕ → Type 0) (bytes : List ℕ) : Type 0 where
  pub closed : IsClosed image_area bytes
  pub alone : Only bytes may_leave
  pub named : begins_as_image bytes ≡ true

-- the disk tells such bytes, which stand for the same as these, and are these but for the ranges of an open record
pub record IsShutAs (bytes : List ℕ) (tells : Option (List ℕ)) (may_leave : List ℕ → Type 0) : Type 0 where
  pub now : List ℕ
  pub told : tells ≡ Some now
  pub shut : IsShut may_leave now
  pub same : stands_as now ≡ stands_as bytes
  pub settled : IsSettledOf bytes now

-- the disk tells bytes that stand for the same, and the tables in memory are those of the image that they are
pub record IsLoaded (held : HeldTables) (bytes : List ℕ) (tells : Option (List ℕ)) (may_leave : List ℕ → Type 0) : Type 0 where
  pub now : List ℕ
  pub told : tells ≡ Some now
  pub kept : IsKeptOn held may_leave now
  pub same : stands_as now ≡ stands_as bytes

-- bytes are opened as tables; or they stand for no kept state, as the fault says
abbrev pub OpensTables : Result HeldTables Fault → (bytes : List ℕ) → (tells : Option (List ℕ)) → (may_leave : List ℕ → Type 0) → Type 0
OpensTables (Ok held) bytes tells may_leave = IsLoaded held bytes tells may_leave
OpensTables (Err NotAnImage) bytes tells may_leave = stands_as bytes ≡ None
OpensTables (Err (BadField place)) bytes tells may_leave = stands_as bytes ≡ Some (Err place)
OpensTables (Err Failed) bytes tells may_leave = Unit {0}
OpensTables (Err Memory) bytes tells may_leave = Unit {0}

-- where bytes stand for no kept state the disk tells them still
abbrev pub StaysAs : {X : Type 0} → Result X Fault → (bytes : List ℕ) → (tells : Option (List ℕ)) → Type 0
StaysAs (Ok held) bytes tells = Unit {0}
StaysAs (Err NotAnImage) bytes tells = tells ≡ Some bytes
StaysAs (Err (BadField place)) bytes tells = tells ≡ Some bytes
StaysAs (Err Failed) bytes tells = Unit {0}
StaysAs (Err Memory) bytes tells = Unit {0}
