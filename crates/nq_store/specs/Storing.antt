-- A store as contracts see it.
use Rattle.std.specs.Prelude.{◌≡◌, ◌⊎◌, ◌<◌, ◌≤◌, All, ◌^◌, ℕ, ◌+◌, ◌-◌, Bool, true, false, List, Option, Some, None, Result, Ok, Err, count_by}
use Rattle.std.specs.Prelude.{is_some, length, min, sum_by, if◌then◌else◌}
use Rattle.std.specs.Option.{ForSome}
use Rattle.nq_base.specs.declared.Space.{Space}
use Rattle.nq_io.specs.Faults.{Rose, count_up}
use Rattle.nq_image.specs.Standing.{Agree, IsFree, Standing, Stands, kept_at, row_blocks}
use Rattle.nq_keeper.specs.declared.KeepFault.{KeepFault}
use Rattle.nq_keeper.specs.declared.KeepFault.TheVariants.{Failed, Memory}
use Rattle.nq_keeper.specs.StoredKeeper.{is_within}
use Rattle.nq_plan.specs.Standing.{image_area, stands_as}
use Rattle.nq_model.specs.protocol.Change.{IsWithinBounds}
use Rattle.nq_model.specs.protocol.Kept.{Kept}
use Rattle.nq_plan.specs.Held.{HeldTables, IsHeldOf}
use Rattle.nq_disk.specs.Saying.{Each, Only}
use Rattle.nq_disk.specs.Ranges.{Range}
use Rattle.nq_disk.specs.Whole.{IsClosed, OpensAfter, OpensAs}

-- the disk, what is in memory of its image, whether a change failed, and how many calls were refused since
pub record StoredStore (D : Type 0) : Type 0 where
  pub disk : D
  pub tables : HeldTables
  pub ended : Bool
  pub refused : ℕ

-- the faults of the disk and the calls that were refused, a count that stands still at the end of its type
abbrev pub counted : (faults refused : ℕ) → ℕ
counted faults refused = min (faults + refused) (2 ^ 64 - 1)

abbrev pub faults_of : {D : Type 0} → (D → ℕ) → StoredStore D → ℕ
faults_of faults store = counted (faults store.disk) store.refused

-- no change failed between these two, and no call was refused
pub record RefusesNone {D : Type 0} (first last : StoredStore D) : Type 0 where
  pub goes_on : last.ended ≡ false
  pub none : last.refused ≡ first.refused

-- the second store is the first one after some calls; a call was refused only where the disk failed between the two, or a change failed before
pub record GoesOn {D : Type 0} (faults : D → ℕ) (follows : D → D → Type 0) (first last : StoredStore D) : Type 0 where
  pub disk : follows first.disk last.disk
  pub refused : first.refused ≤ last.refused
  pub cause : first.ended ≡ false → RefusesNone first last ⊎ Rose (faults first.disk) (faults last.disk)

-- a kept state, where it is within its bounds
abbrev pub if_within : Kept → Option Kept
if_within kept = if is_within kept then Some kept else None

-- the kept state of what bytes stand for; None for what nobody can open
abbrev pub kept_of : Option (Result Kept ℕ) → Option Kept
kept_of None = None
kept_of (Some (Err place)) = None
kept_of (Some (Ok kept)) = if_within kept

-- the kept state for which the bytes of a disk stand
unfoldable pub kept_on : List ℕ → Option Kept
kept_on bytes = kept_of (stands_as bytes)

-- the same of the bytes that a disk tells
abbrev pub kept_told : Option (List ℕ) → Option Kept
kept_told None = None
kept_told (Some bytes) = kept_on bytes

-- the bytes of a disk stand for some kept state
abbrev pub IsKept : List ℕ → Type 0
IsKept bytes = (kept : Kept) × (kept_on bytes ≡ Some kept)

-- what a store tells of what it keeps: what its disk stands for, until a change fails
abbrev pub content_while : (ended : Bool) → Option (List ℕ) → Option Kept
content_while true told = None
content_while false told = kept_told told

abbrev pub content_of : {D : Type 0} → (D → Option (List ℕ)) → StoredStore D → Option Kept
content_of told store = content_while store.ended (told store.disk)

-- the tables in memory are those of the image that these bytes are, whose record is closed, and a stop leaves nothing else
pub record IsKeptOn (held : HeldTables) (may_leave : List ℕ → Type 0) (bytes : List ℕ) : Type 0 where
  pub is_held : IsHeldOf bytes held
  pub closed : IsClosed image_area bytes
  pub alone : Only bytes may_leave
  pub within : IsWithinBounds (kept_at bytes held.standing)

-- until a change fails, the tables in memory are those of the image on the disk, where the disk tells its bytes
abbrev pub IsSound : (told : Option (List ℕ)) → (may_leave : List ℕ → Type 0) → HeldTables → (ended : Bool) → Type 0
IsSound told may_leave held ended = ended ≡ false → ForSome told (IsKeptOn held may_leave)

-- what a stop leaves, as it is found again
abbrev pub LeavesKept : (List ℕ → Type 0) → Option Kept → Type 0
LeavesKept leaves found = (bytes : List ℕ) × leaves bytes × (found ≡ kept_on bytes)

-- an image is all that a stop leaves, its record is closed, and no file has these blocks
pub record IsReady (s : Standing) (blocks : List ℕ) (may_leave : List ℕ → Type 0) (bytes : List ℕ) : Type 0 where
  pub stands : Stands bytes s
  pub closed : IsClosed image_area bytes
  pub alone : Only bytes may_leave
  pub free : All (IsFree s) blocks

-- another image is the same wherever something stands, and its record is closed
pub record StandsStill (s : Standing) (bytes image : List ℕ) : Type 0 where
  pub agree : Agree s bytes image
  pub closed : IsClosed image_area image

-- what a stop leaves opens as an image where the same stands, or as a disk after these ranges were written
abbrev pub OpensWhole : (s : Standing) (ranges : List Range) (old zeroed image : List ℕ) → Type 0
OpensWhole s ranges old zeroed image = ((mid : List ℕ) × StandsStill s old mid × OpensAs image_area mid image) ⊎ OpensAfter image_area ranges zeroed image

-- a store as it is opened: no change failed, and no call was refused
pub record IsFresh {D : Type 0} (store : StoredStore D) : Type 0 where
  pub goes_on : store.ended ≡ false
  pub none : store.refused ≡ 0

-- a call is refused once a change failed, and the refusals are counted
abbrev pub asked : (ended : Bool) → Result Unit KeepFault
asked true = Err Failed
asked false = Ok tt

abbrev pub refusals : (ended : Bool) → ℕ → ℕ
refusals true refused = count_up refused
refusals false refused = refused

abbrev pub answered : {X : Type 0} → (ended : Bool) → X → Result X KeepFault
answered true answer = Err Failed
answered false answer = Ok answer

abbrev pub after_asking : {D : Type 0} → StoredStore D → StoredStore D
after_asking store = record store { refused = refusals store.ended store.refused }

-- how many files and blocks there are
abbrev pub space_in : Standing → Space
space_in s = record {
  files = count_by (λ row. is_some row) s.rows;
  blocks = sum_by (λ row. length (row_blocks row)) s.rows;
}

-- the count of faults of a disk rises where a call failed, and stays else
abbrev pub CountsKeep : {X : Type 0} → Result X KeepFault → (before now : ℕ) → Type 0
CountsKeep (Ok answer) before now = now ≡ before
CountsKeep (Err Memory) before now = now ≡ before
CountsKeep (Err Failed) before now = Rose before now

-- for want of memory a change does nothing, and no call of the disk was made for it
abbrev pub StaysForMemory : {D : Type 0} → Result Unit KeepFault → (before now : StoredStore D) → Type 0
StaysForMemory (Ok done) before now = Unit {0}
StaysForMemory (Err Failed) before now = Unit {0}
StaysForMemory (Err Memory) before now = now ≡ before

-- whatever a stop may leave of a disk opens, and stands for this kept state
abbrev pub AllStandFor : (List ℕ → Type 0) → Kept → Type 0
AllStandFor may_leave kept = Each may_leave (λ image. kept_on image ≡ Some kept)

-- a count of faults rose, or it stands at the end of its type, where it cannot rise
abbrev pub HasRisen : (before now : ℕ) → Type 0
HasRisen before now = (before < now) ⊎ (2 ^ 64 - 1 ≤ now)
