-- What serving over the image on a disk does. Below, `told` is what a disk tells of its bytes, `faults` is its count of faults, `may_leave` is
-- what a stop at a moment may leave of its bytes, `follows` says that a disk is another one after some of its calls, and `leaves` is what a
-- stop between two moments may leave.
use Rattle.std.specs.Fmt.{decimal}
use Rattle.std.specs.Option.{ForSome}
use Rattle.std.specs.Prelude.{◌≡◌, ◌⊎◌, ◌++◌, ℕ, List, Option, Some, None, Result, Ok, Err, codes}
use Rattle.nq_base.specs.Status.{status_of}
use Rattle.nq_base.specs.declared.ending.ending.Ending.{Ending}
use Rattle.nq_base.specs.declared.ending.fault.Fault.{Fault}
use Rattle.nq_plan.specs.Standing.{stands_as}
use Rattle.nq_serving.specs.Extending.{no_extension}
use Rattle.nq_serving.specs.LeavingTurns.{IsLeftInRuns, LeavesServing}
use Rattle.nq_serving.specs.declared.turning.LinkPolicy.{LinkPolicy}
use Rattle.nq_serving.specs.Serving.{EndsBy, Tells}
use Rattle.nq_io.specs.Faults.{Rose}
use Rattle.nq_model.specs.protocol.Kept.{Kept}
use Rattle.nq_clock.specs.Clocks.{ClockTold}
use Rattle.nq_link.specs.Links.{LinkTold}
use Rattle.nq_disk.specs.Saying.{Each}
use Rattle.nq_io.specs.Sink.{PrintsLine}
use Rattle.nq_store.specs.Opening.{TellsSettled}
use Rattle.nq_store.specs.Storing.{AllStandFor, GoesOn, HasRisen, IsFresh, LeavesKept, StoredStore, content_of, faults_of, kept_on, kept_told}

-- the line that tells which byte of an image is the first wrong one
unfoldable pub image_line : (place : ℕ) → List ℕ
image_line place = codes "image byte " ++ decimal place ++ codes "\n"

-- the first wrong byte of what is on a disk: byte 0 where it is no image
abbrev pub first_wrong : Option (Result Kept ℕ) → Option ℕ
first_wrong None = Some 0
first_wrong (Some (Ok kept)) = None
first_wrong (Some (Err place)) = Some place

-- the exit status where a byte of the image says that it cannot be served from. Serving over another keeper has it where no number is left for a
-- boot, which an image says by byte 8
abbrev pub bad_image : ℕ
bad_image = 10

-- the line that tells this byte was printed; or memory was wanting for it, which the status says, and nothing was
abbrev pub TellsByte : (place code : ℕ) → (held now : Option (List ℕ)) → (w w' : ℕ) → Type 0
TellsByte place code held now w w' =
    ((code ≡ bad_image) × PrintsLine (image_line place) held now w w') ⊎ ((code ≡ status_of Ending.Memory) × (now ≡ held) × (w' ≡ w))

-- ---- what a stop leaves

-- where all that a stop might have left at first stood for one kept state, all that a stop at any moment leaves stands for it
abbrev pub StaysSame : (before leaves : List ℕ → Type 0) → Type 0
StaysSame before leaves = (kept : Kept) → AllStandFor before kept → AllStandFor leaves kept

-- What was done over a store when serving ended so. Where all that a stop might have left of the disk at first stood for one kept state,
-- whatever a stop at any moment may leave opens, and stands for that, or for what was kept after some of the steps: the boot, and the ticks
-- and datagrams of the turns. Between two turns, which `serving` tells, and at the end it stands for exactly what the server keeps then. This
-- refuses a server that answers `ok` once the gate byte is written and before it is synced
pub record Survives {D : Type 0} (told : D → Option (List ℕ)) (faults : D → ℕ) (may_leave : D → List ℕ → Type 0) (follows : D → D → Type 0)
    (leaves : D → D → List ℕ → Type 0) (longest turns : ℕ) (disk : D) (store : StoredStore D) (ended : Result Unit Fault) (left : StoredStore D)
    (clock clock' : ClockTold) (link link' : LinkTold) : Type 0 where
  pub serving : LeavesServing (content_of told) (faults_of faults) LinkPolicy.Stop no_extension (GoesOn faults follows)
      (λ first last. LeavesKept (leaves first.disk last.disk)) longest turns store ended left clock clock' link link'
  pub survives : ForSome (told disk) (λ bytes. (kept : Kept) → AllStandFor (may_leave disk) kept
      → Each (leaves disk left.disk) (λ image. IsLeftInRuns (content_of told) (faults_of faults) LinkPolicy.Stop no_extension
      (GoesOn faults follows) longest turns
      serving.serves.time store ended left serving.serves.between clock' link link' serving.serves.runs kept (kept_on image)))
  pub settled : ForSome (content_of told left) (λ kept. AllStandFor (leaves left.disk left.disk) kept)

-- ---- where the disk is not served from

-- The disk is no image, or one of its fields is wrong: the line that tells the first wrong byte was printed. The disk has the bytes that it
-- had, but that the ranges of an open record may have been written
pub record Refuses {D : Type 0} (told : D → Option (List ℕ)) (faults : D → ℕ) (code : ℕ) (disk left : D) (held now : Option (List ℕ)) (w w' : ℕ) : Type 0 where
  pub place : ℕ
  pub wrong : ForSome (told disk) (λ bytes. first_wrong (stands_as bytes) ≡ Some place)
  pub stays : ForSome (told disk) (λ bytes. TellsSettled bytes (told left))
  pub tells : TellsByte place code held now w w'
  pub counts : faults left ≡ faults disk

-- the disk failed while it was opened, which it has counted
pub record FailsToOpen {D : Type 0} (faults : D → ℕ) (code : ℕ) (disk left : D) (held now : Option (List ℕ)) (w w' : ℕ) : Type 0 where
  pub status : code ≡ status_of Ending.KeepFault
  pub rose : Rose (faults disk) (faults left)
  pub quiet : (now ≡ held) × (w' ≡ w)

-- memory was wanting while the disk was opened
pub record LacksMemory {D : Type 0} (faults : D → ℕ) (code : ℕ) (disk left : D) (held now : Option (List ℕ)) (w w' : ℕ) : Type 0 where
  pub status : code ≡ status_of Ending.Memory
  pub counts : faults left ≡ faults disk
  pub quiet : (now ≡ held) × (w' ≡ w)

-- why a disk was not served from
abbrev pub IsNotOpened : {D : Type 0} → (told : D → Option (List ℕ)) → (faults : D → ℕ) → (code : ℕ) → (disk left : D) → (held now : Option (List ℕ))
    → (w w' : ℕ) → Type 0
IsNotOpened told faults code disk left held now w w' =
    Refuses told faults code disk left held now w w' ⊎ FailsToOpen faults code disk left held now w w' ⊎ LacksMemory faults code disk left held now w w'

-- The disk was not served from: it was refused, or it failed, or memory was wanting. The clock and the link were not asked, and a stop at any
-- moment leaves what is kept as it was
pub record OpensNot {D : Type 0} (told : D → Option (List ℕ)) (faults : D → ℕ) (may_leave : D → List ℕ → Type 0) (leaves : D → D → List ℕ → Type 0)
    (code : ℕ) (disk left : D) (clock clock' : ClockTold) (link link' : LinkTold) (held now : Option (List ℕ)) (w w' : ℕ) : Type 0 where
  pub why : IsNotOpened told faults code disk left held now w w'
  pub clocks : clock' ≡ clock
  pub links : link' ≡ link
  pub survives : ForSome (told disk) (λ bytes. StaysSame (may_leave disk) (leaves disk left))

-- ---- where it is

-- where the first byte stands of the number of boots
abbrev pub boot_place : ℕ
boot_place = 8

-- What is printed behind serving, and the status: that of the end. Where no number is left for a boot, the line is printed that tells where
-- the image says so
abbrev pub PrintsBehind : Ending → (code : ℕ) → (held now : Option (List ℕ)) → (w w' : ℕ) → Type 0
PrintsBehind Ending.Spent code held now w w' = TellsByte boot_place code held now w w'
PrintsBehind other code held now w w' = (code ≡ status_of other) × (now ≡ held) × (w' ≡ w)

-- Serving over this store ended, and this disk is handed back, which is the store's. `P` says what was done when turns ended so. Where no
-- number is left for a boot the line is printed that tells where the image says so; all else is printed as serving does
pub record EndsServing {D : Type 0} (told : D → Option (List ℕ)) (faults : D → ℕ) (follows : D → D → Type 0) (P : Result Unit Fault → StoredStore D
    → Type 0) (code turns : ℕ) (store : StoredStore D) (left : D) (link link' : LinkTold) (held now : Option (List ℕ)) (w w' : ℕ) : Type 0 where
  pub end : Ending
  pub served : StoredStore D
  pub between : Option (List ℕ)
  pub count : ℕ
  pub handed : left ≡ served.disk
  pub same : GoesOn faults follows store served
  pub tells : Tells end turns (λ ended. P ended served) held between w count
  pub cause : EndsBy end (content_of told store) (faults_of faults store) (faults_of faults served) link.faults link'.faults w count
  pub prints : PrintsBehind end code between now count w'

-- The disk was opened as a store, which keeps what the disk stood for, and the store was served from. No byte of the disk was wrong. The
-- status says that the keeper failed only where the disk failed
pub record ServesStore {D : Type 0} (told : D → Option (List ℕ)) (faults : D → ℕ) (may_leave : D → List ℕ → Type 0) (follows : D → D → Type 0)
    (leaves : D → D → List ℕ → Type 0) (code longest turns : ℕ) (disk left : D) (clock clock' : ClockTold) (link link' : LinkTold)
    (held now : Option (List ℕ)) (w w' : ℕ) : Type 0 where
  pub store : StoredStore D
  pub right : ForSome (told disk) (λ bytes. first_wrong (stands_as bytes) ≡ None)
  pub keeps : content_of told store ≡ kept_told (told disk)
  pub opened : follows disk store.disk
  pub fresh : IsFresh store
  pub counts : faults store.disk ≡ faults disk
  pub failed : code ≡ status_of Ending.KeepFault → HasRisen (faults disk) (faults left)
  pub serves : EndsServing told faults follows (λ ended served. Survives told faults may_leave follows leaves longest turns disk store ended served
      clock clock' link link') code turns store left link link' held now w w'

-- the disk was not opened, or it was served from
abbrev pub ServesDisk : {D : Type 0} → (told : D → Option (List ℕ)) → (faults : D → ℕ) → (may_leave : D → List ℕ → Type 0)
    → (follows : D → D → Type 0) → (leaves : D → D → List ℕ → Type 0) → (code longest turns : ℕ) → (disk left : D) → (clock clock' : ClockTold)
    → (link link' : LinkTold) → (held now : Option (List ℕ)) → (w w' : ℕ) → Type 0
ServesDisk told faults may_leave follows leaves code longest turns disk left clock clock' link link' held now w w' =
    OpensNot told faults may_leave leaves code disk left clock clock' link link' held now w w'
    ⊎ ServesStore told faults may_leave follows leaves code longest turns disk left clock clock' link link' held now w w'
