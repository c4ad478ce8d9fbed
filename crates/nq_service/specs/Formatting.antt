-- What making an empty image does.
use Rattle.std.specs.Prelude.{◌≡◌, ◌⊎◌, ℕ, List, Option}
use Rattle.std.specs.Option.{ForSome}
use Rattle.nq_base.specs.Status.{status_of}
use Rattle.nq_base.specs.declared.ending.ending.Ending.{Ending}
use Rattle.nq_plan.specs.Formatted.{StandsForNothing, TellsNothing}
use Rattle.nq_io.specs.Faults.{Rose}
use Rattle.nq_disk.specs.Saying.{Each}

-- the disk and whatever a stop may leave of it stand for the state in which nothing is kept, where the disk told its bytes
pub record IsEmpty {D : Type 0} (told : D → Option (List ℕ)) (faults : D → ℕ) (may_leave : D → List ℕ → Type 0) (code : ℕ) (disk left : D) : Type 0 where
  pub status : code ≡ status_of Ending.Done
  pub empty : ForSome (told disk) (λ bytes. TellsNothing (told left) × Each (may_leave left) StandsForNothing)
  pub counts : faults left ≡ faults disk

-- the disk failed, which it has counted
pub record FailsToFormat {D : Type 0} (faults : D → ℕ) (code : ℕ) (disk left : D) : Type 0 where
  pub status : code ≡ status_of Ending.KeepFault
  pub rose : Rose (faults disk) (faults left)

-- a disk was made empty, or it failed
abbrev pub Formats : {D : Type 0} → (faults : D → ℕ) → (told : D → Option (List ℕ)) → (may_leave : D → List ℕ → Type 0) → (code : ℕ) → (disk left : D) → Type 0
Formats faults told may_leave code disk left = IsEmpty told faults may_leave code disk left ⊎ FailsToFormat faults code disk left
