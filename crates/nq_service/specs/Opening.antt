-- Opening the image on a disk, which is made where the disk has no byte. Below, `told` is what a disk tells of its bytes, `faults` is its count of
-- faults, `may_leave` is what a stop at a moment may leave of its bytes, `follows` says that a disk is another one after some of its calls, and
-- `leaves` is what a stop between two moments may leave.
use Rattle.std.specs.Option.{ForSome}
use Rattle.std.specs.Prelude.{◌≡◌, ◌⊎◌, ◌<◌, ℕ, List, [], Option, Some, Result, Ok, Err, IfOk, OnOk, length}
use Rattle.nq_disk.specs.Calling.{LeavesNoMore}
use Rattle.nq_plan.specs.Formatted.{StandsForNothing, TellsNothing}
use Rattle.nq_io.specs.Faults.{Rose}
use Rattle.nq_disk.specs.Saying.{Each}
use Rattle.nq_store.specs.Opening.{AnswersOpen, FollowsOpen, LeavesLike, SaysWrong, StaysRefused, disk_of}
use Rattle.nq_store.specs.Storing.{IsFresh, IsKept, StoredStore, content_of, kept_told}
use Rattle.nq_store.specs.declared.fault.OpenFault.{OpenFault}
use Rattle.nq_store.specs.declared.fault.OpenFault.TheVariants as opening

-- a disk with a byte tells what it told, and a stop leaves no more than one before might have left
abbrev pub StaysAsItIs : {D : Type 0} → (told : D → Option (List ℕ)) → (may_leave : D → List ℕ → Type 0) → (leaves : D → D → List ℕ → Type 0)
    → (disk later : D) → Type 0
StaysAsItIs told may_leave leaves disk later =
    ForSome (told disk) (λ bytes. 0 < length bytes → (told later ≡ told disk) × LeavesNoMore (may_leave disk) (leaves disk later))

-- a disk without a byte became an image in which nothing is kept, and a stop from then on leaves nothing else
abbrev pub BecomesEmptyImage : {D : Type 0} → (told : D → Option (List ℕ)) → (may_leave : D → List ℕ → Type 0) → (disk later : D) → Type 0
BecomesEmptyImage told may_leave disk later =
    told disk ≡ Some [] → TellsNothing (told later) × Each (may_leave later) StandsForNothing

-- a disk that can be opened: one with a byte is as it was, and one without was made an empty image
pub record IsReady {D : Type 0} (told : D → Option (List ℕ)) (faults : D → ℕ) (may_leave : D → List ℕ → Type 0) (follows : D → D → Type 0) (leaves : D
    → D → List ℕ → Type 0) (disk ready : D) : Type 0 where
  pub same : follows disk ready
  pub stays : StaysAsItIs told may_leave leaves disk ready
  pub made : BecomesEmptyImage told may_leave disk ready
  pub counts : faults ready ≡ faults disk

-- a disk that failed before it could be opened, which it has counted; one with a byte is as it was
pub record FailsEarly {D : Type 0} (told : D → Option (List ℕ)) (faults : D → ℕ) (may_leave : D → List ℕ → Type 0) (follows : D → D → Type 0)
    (leaves : D → D → List ℕ → Type 0) (disk back : D) : Type 0 where
  pub same : follows disk back
  pub stays : StaysAsItIs told may_leave leaves disk back
  pub rose : Rose (faults disk) (faults back)

-- what making a disk ready came to
abbrev pub Readies : {D : Type 0} → {X : Type 0} → {Y : Type 0} → (told : D → Option (List ℕ)) → (faults : D → ℕ) → (may_leave : D → List ℕ → Type 0)
    → (follows : D → D → Type 0) → (leaves : D → D → List ℕ → Type 0) → Result X Y → (disk later : D) → Type 0
Readies told faults may_leave follows leaves (Ok done) disk later = IsReady told faults may_leave follows leaves disk later
Readies told faults may_leave follows leaves (Err fault) disk later = FailsEarly told faults may_leave follows leaves disk later

-- A disk that could be opened was opened as a store, which keeps what the disk stands for; or it was refused, and one that was refused for its
-- bytes has them still. A stop leaves what is kept as it was
pub record IsOpenedAs {D : Type 0} (told : D → Option (List ℕ)) (faults : D → ℕ) (may_leave : D → List ℕ → Type 0) (follows : D → D → Type 0)
    (leaves : D → D → List ℕ → Type 0) (ready : D) (result : Result (StoredStore D) (OpenFault D)) : Type 0 where
  pub keeps : IfOk result (λ store. content_of told store ≡ kept_told (told ready))
  pub stands : OnOk result (ForSome (told ready) IsKept)
  pub wrong : SaysWrong result (told ready)
  pub stays : ForSome (told ready) (λ bytes. StaysRefused told result bytes)
  pub fresh : IfOk result IsFresh
  pub counts : AnswersOpen (λ store. store.disk) faults result ready
  pub same : FollowsOpen (λ store. store.disk) follows result ready
  pub still : LeavesLike (told ready) (may_leave ready) (leaves ready (disk_of (λ store. store.disk) result))

-- a disk was made ready, and opened so
pub record OpensReady {D : Type 0} (told : D → Option (List ℕ)) (faults : D → ℕ) (may_leave : D → List ℕ → Type 0) (follows : D → D → Type 0)
    (leaves : D → D → List ℕ → Type 0) (disk : D) (result : Result (StoredStore D) (OpenFault D)) : Type 0 where
  pub ready : D
  pub is_ready : IsReady told faults may_leave follows leaves disk ready
  pub opened : IsOpenedAs told faults may_leave follows leaves ready result

-- a disk failed before it could be opened, and is handed back
pub record OpensNever {D : Type 0} (told : D → Option (List ℕ)) (faults : D → ℕ) (may_leave : D → List ℕ → Type 0) (follows : D → D → Type 0)
    (leaves : D → D → List ℕ → Type 0) (disk : D) (result : Result (StoredStore D) (OpenFault D)) : Type 0 where
  pub back : D
  pub failed : result ≡ Err (opening.Failed back)
  pub early : FailsEarly told faults may_leave follows leaves disk back

-- what opening a disk came to, which is made an image where it has no byte
abbrev pub OpensOrMakes : {D : Type 0} → (told : D → Option (List ℕ)) → (faults : D → ℕ) → (may_leave : D → List ℕ → Type 0)
    → (follows : D → D → Type 0) → (leaves : D → D → List ℕ → Type 0) → (disk : D) → Result (StoredStore D) (OpenFault D) → Type 0
OpensOrMakes told faults may_leave follows leaves disk result =
    OpensReady told faults may_leave follows leaves disk result ⊎ OpensNever told faults may_leave follows leaves disk result
