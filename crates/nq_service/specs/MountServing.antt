-- What serving on over the image on a disk does. Below, `told` is what a disk tells of its bytes, `faults` is its count of faults, `may_leave` is
-- what a stop at a moment may leave of its bytes, `follows` says that a disk is another one after some of its calls, and `leaves` is what a
-- stop between two moments may leave. An `extension` stands beside the server.
use Rattle.std.specs.Option.{ForSome}
use Rattle.std.specs.Prelude.{◌≡◌, ◌⊎◌, ◌<◌, ◌≤◌, ◌^◌, ◌-◌, ℕ, List, [], Option, Some, None, Result, Ok, Err, length}
use Rattle.nq_serving.specs.LeavingTurns.{IsLeftInRuns, LeavesServing}
use Rattle.nq_serving.specs.Running.{HaltsBy}
use Rattle.nq_serving.specs.declared.turning.LinkPolicy.{LinkPolicy}
use Rattle.nq_serving.specs.Extending.{Extension}
use Rattle.nq_base.specs.declared.ending.fault.Fault.{Fault}
use Rattle.nq_plan.specs.Standing.{stands_as}
use Rattle.nq_image.specs.Nothing.{nothing_kept}
use Rattle.nq_io.specs.Faults.{Rose}
use Rattle.nq_model.specs.protocol.Kept.{Kept}
use Rattle.nq_service.specs.Opening.{IsReady}
use Rattle.nq_clock.specs.Clocks.{ClockTold}
use Rattle.nq_link.specs.Links.{LinkTold}
use Rattle.nq_disk.specs.Saying.{Each}
use Rattle.nq_store.specs.Opening.{StaysBack, back_of}
use Rattle.nq_store.specs.Storing.{AllStandFor, GoesOn, HasRisen, IsFresh, LeavesKept, StoredStore, content_of, faults_of, kept_on, kept_told}
use Rattle.nq_store.specs.declared.fault.OpenFault.{OpenFault}
use Rattle.nq_store.specs.declared.fault.OpenFault.TheVariants as opening

-- a disk that may be opened has bytes, and for these bytes this is what they stand for
abbrev pub StandsSo : Option (List ℕ) → Option (Result Kept ℕ) → Type 0
StandsSo told so = ForSome told (λ bytes. (0 < length bytes) × (stands_as bytes ≡ so))

-- Why a disk was not served from: it is no image; one of its fields is wrong; it failed, which it has counted; or memory was wanting. An empty
-- disk is never refused for its bytes
abbrev pub IsWhyNot : {D : Type 0} → (told : D → Option (List ℕ)) → (faults : D → ℕ) → (disk : D) → OpenFault D → Type 0
IsWhyNot told faults disk (opening.NotAnImage back) = StandsSo (told disk) None × (faults back ≡ faults disk)
IsWhyNot told faults disk (opening.BadField back place) = StandsSo (told disk) (Some (Err place)) × (faults back ≡ faults disk)
IsWhyNot told faults disk (opening.Failed back) = Rose (faults disk) (faults back)
IsWhyNot told faults disk (opening.Memory back) = faults back ≡ faults disk

-- The disk was not served from. The clock and the link were not asked. Where it had a byte and was refused for its bytes, it has them, but that the
-- ranges of an open record may have been written; and where all that a stop might have left of it at first stood for one kept state, all that a stop
-- at any moment leaves stands for it
pub record ServesNot {D : Type 0} (told : D → Option (List ℕ)) (faults : D → ℕ) (may_leave : D → List ℕ → Type 0) (leaves : D → D → List ℕ → Type 0)
    (disk : D) (fault : OpenFault D) (clock clock' : ClockTold) (link link' : LinkTold) : Type 0 where
  pub why : IsWhyNot told faults disk fault
  pub clocks : clock' ≡ clock
  pub links : link' ≡ link
  pub stays : ForSome (told disk) (λ bytes. 0 < length bytes → StaysBack told fault bytes)
  pub survives : ForSome (told disk) (λ bytes. 0 < length bytes → (kept : Kept) → AllStandFor (may_leave disk) kept
      → AllStandFor (leaves disk (back_of fault)) kept)

-- A store was served from, and ended so; this disk is left, which is the store's. Between two turns, which `serving` tells, and at the end whatever
-- a stop leaves stands for exactly what the server keeps then. This refuses a server that answers `ok` once the gate byte is written and before it
-- is synced
pub record EndsServing {D : Type 0} (told : D → Option (List ℕ)) (faults : D → ℕ) (follows : D → D → Type 0) (leaves : D → D → List ℕ → Type 0)
    (extension : Extension) (longest turns : ℕ) (store : StoredStore D) (ended : Result Unit Fault) (left : D) (clock clock' : ClockTold)
    (link link' : LinkTold) : Type 0 where
  pub served : StoredStore D
  pub handed : left ≡ served.disk
  pub same : GoesOn faults follows store served
  pub cause : HaltsBy LinkPolicy.GoOn ended (content_of told store) (faults_of faults store) (faults_of faults served) link.faults link'.faults
  pub serving : LeavesServing (content_of told) (faults_of faults) LinkPolicy.GoOn extension (GoesOn faults follows) (λ first last. LeavesKept
      (leaves first.disk last.disk))
      longest turns store ended served clock clock' link link'
  pub settled : ForSome (content_of told served) (λ kept. AllStandFor (leaves left left) kept)

-- this image, which a stop left, opens, and stands for what was kept at first, or after some of the steps: the boot, and the ticks and datagrams of
-- the turns
abbrev pub IsFoundAmong : {D : Type 0} → (told : D → Option (List ℕ)) → (faults : D → ℕ) → (follows : D → D → Type 0) → (leaves : D → D → List ℕ
    → Type 0) → (extension : Extension) → (longest turns : ℕ) → (store : StoredStore D) → (ended : Result Unit Fault) → (left : D) → (clock clock' : ClockTold)
    → (link link' : LinkTold) → EndsServing told faults follows leaves extension longest turns store ended left clock clock' link link' → (kept : Kept)
    → (image : List ℕ) → Type 0
IsFoundAmong told faults follows leaves extension longest turns store ended left clock clock' link link' ends kept image =
    IsLeftInRuns (content_of told) (faults_of faults) LinkPolicy.GoOn extension (GoesOn faults follows) longest turns ends.serving.serves.time store ended
    ends.served
    ends.serving.serves.between clock' link link' ends.serving.serves.runs kept (kept_on image)

-- a count of faults stood still, or it stood at the end of its type before, where it cannot rise
abbrev pub StoodStill : (before now : ℕ) → Type 0
StoodStill before now = (now ≡ before) ⊎ (2 ^ 64 - 1 ≤ before)

-- The disk was made ready and opened as a store, which was served from. Where the disk had a byte, and all that a stop might have left of it at first
-- stood for one kept state, whatever a stop at any moment of the call leaves opens, and stands for that or for what was kept after some of the
-- steps. Where it had none, the same is so of a stop at any moment from then on that the image was made, for the state in which nothing is kept. Where
-- all turns were taken, no call of the disk failed
pub record ServesImage {D : Type 0} (told : D → Option (List ℕ)) (faults : D → ℕ) (may_leave : D → List ℕ → Type 0) (follows : D → D → Type 0)
    (leaves : D → D → List ℕ → Type 0) (extension : Extension) (longest turns : ℕ) (disk : D) (ended : Result Unit Fault) (left : D) (clock clock' : ClockTold)
    (link link' : LinkTold) : Type 0 where
  pub ready : D
  pub is_ready : IsReady told faults may_leave follows leaves disk ready
  pub store : StoredStore D
  pub opened : follows ready store.disk
  pub keeps : content_of told store ≡ kept_told (told ready)
  pub fresh : IsFresh store
  pub ends : EndsServing told faults follows leaves extension longest turns store ended left clock clock' link link'
  pub failed : ended ≡ Err Fault.Keep → HasRisen (faults disk) (faults left)
  pub done : ended ≡ Ok tt → StoodStill (faults disk) (faults left)
  pub survives : ForSome (told disk) (λ bytes. 0 < length bytes → (kept : Kept) → AllStandFor (may_leave disk) kept
      → Each (leaves disk left) (IsFoundAmong told faults follows leaves extension longest turns store ended left clock clock' link link' ends kept))
  pub survives_made : told disk ≡ Some []
      → Each (leaves ready left) (IsFoundAmong told faults follows leaves extension longest turns store ended left clock clock' link link' ends nothing_kept)
