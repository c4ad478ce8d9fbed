-- What the calls of a disk do. Below, `told` is what the disk told of its bytes before a call and `tells` is what it tells after it.
use Rattle.std.specs.Prelude.{◌≡◌, ℕ, ◌-◌, List, Option, Some, None, Result, Ok, Err, length, take, drop, min}
use Rattle.std.specs.Option.{ForSome}
use Rattle.nq_io.specs.Faults.{Rose}
use Rattle.nq_disk.specs.Bytes.{written, Torn}
use Rattle.nq_disk.specs.declared.disk.DiskFault.{DiskFault}

-- a call that fails raises the count of faults, and any other leaves it as it was
abbrev pub Counts : {X : Type 0} → Result X DiskFault → (before now : ℕ) → Type 0
Counts (Ok answer) before now = now ≡ before
Counts (Err fault) before now = Rose before now

-- the front of the buffer holds the bytes from a place on, as many as there are and fit
pub record ReadsFront (count place : ℕ) (disk buffer : List ℕ) : Type 0 where
  pub number : count ≡ min (length buffer) (length disk - place)
  pub front : take count buffer ≡ take count (drop place disk)

-- what is told after a write
abbrev pub told_after : ℕ → List ℕ → Option (List ℕ) → Option (List ℕ)
told_after place bytes None = None
told_after place bytes (Some disk) = Some (written place bytes disk)

-- a range of n bytes may hold anything; what was told is told on
abbrev pub Tears : (place n : ℕ) → (told tells : Option (List ℕ)) → Type 0
Tears place n None tells = tells ≡ None
Tears place n (Some disk) tells = (torn : List ℕ) × (tells ≡ Some torn) × Torn place n disk torn

-- what a write does to the bytes as they read: where it fails, its own range may hold anything
abbrev pub Writes : Result Unit DiskFault → ℕ → List ℕ → (told tells : Option (List ℕ)) → Type 0
Writes (Ok done) place bytes told tells = tells ≡ told_after place bytes told
Writes (Err fault) place bytes told tells = Tears place (length bytes) told tells

-- a stop within the call leaves only what a stop before it might have left
abbrev pub LeavesNoMore : (before leaves : List ℕ → Type 0) → Type 0
LeavesNoMore before leaves = (image : List ℕ) → leaves image → before image

-- a stop within the call leaves what a stop before it might have left, but for the written range and the part past the old end
abbrev pub LeavesTorn : (place n : ℕ) → (before leaves : List ℕ → Type 0) → Type 0
LeavesTorn place n before leaves = (image : List ℕ) → leaves image → (old : List ℕ) × before old × Torn place n old image

-- a stop leaves what reads, where that is told
abbrev pub IsAllThatIsLeft : (told : Option (List ℕ)) → (List ℕ → Type 0) → Type 0
IsAllThatIsLeft told may_leave = ForSome told (λ disk. (image : List ℕ) → may_leave image → image ≡ disk)
