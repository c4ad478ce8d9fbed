-- What an open of a disk with a redo record answers.
use Rattle.std.specs.Prelude.{◌≡◌, ℕ, List, Option, Some, Result, Ok, Err}
use Rattle.nq_io.specs.Faults.{Rose}
use Rattle.nq_disk.specs.Whole.{Settled, found}
use Rattle.nq_disk.specs.declared.redo.area.Area.{Area}
use Rattle.nq_disk.specs.declared.redo.replay.OpenFault.{OpenFault}
use Rattle.nq_disk.specs.declared.redo.replay.OpenFault.TheVariants as fault
use Rattle.nq_disk.specs.declared.redo.redo.Redo.{Redo}
use Rattle.nq_disk.specs.declared.redo.redo.RedoOpen.{RedoOpen}
use Rattle.nq_disk.specs.declared.redo.redo.RedoOpen.TheVariants as opening

-- what an open does: after Ok the disk is as the open finds it, with the gate closed; a wrong field is named where the open finds
-- one, and nothing is changed then
abbrev pub OpensOn : Area → Result Unit OpenFault → List ℕ → (tells : Option (List ℕ)) → (may_leave : List ℕ → Type 0) → Type 0
OpensOn area (Ok done) old tells may_leave = Settled area (found area old) tells may_leave
OpensOn area (Err (fault.BadField place)) old tells may_leave = (found area old ≡ Err place) × (tells ≡ Some old)
OpensOn area (Err fault.Failed) old tells may_leave = Unit
OpensOn area (Err fault.Memory) old tells may_leave = tells ≡ Some old

-- the count of faults rises where an open failed, and stays else
abbrev pub CountsFault : Result Unit OpenFault → (before now : ℕ) → Type 0
CountsFault (Ok done) before now = now ≡ before
CountsFault (Err (fault.BadField place)) before now = now ≡ before
CountsFault (Err fault.Failed) before now = Rose before now
CountsFault (Err fault.Memory) before now = now ≡ before

-- what an open of a disk that is handed over does
abbrev pub Opens : {D : Type 0} → Area → Result (Redo D) (RedoOpen D) → List ℕ → (tells : Option (List ℕ)) → (may_leave : List ℕ → Type 0) → Type 0
Opens area (Ok redo) old tells may_leave = Settled area (found area old) tells may_leave
Opens area (Err (opening.BadField disk place)) old tells may_leave = (found area old ≡ Err place) × (tells ≡ Some old)
Opens area (Err (opening.Failed disk)) old tells may_leave = Unit
Opens area (Err (opening.Memory disk)) old tells may_leave = tells ≡ Some old

-- the count of faults rises where it failed, and stays else
abbrev pub CountsOpen : {D : Type 0} → Result (Redo D) (RedoOpen D) → (before now : ℕ) → Type 0
CountsOpen (Ok redo) before now = now ≡ before
CountsOpen (Err (opening.BadField disk place)) before now = now ≡ before
CountsOpen (Err (opening.Failed disk)) before now = Rose before now
CountsOpen (Err (opening.Memory disk)) before now = now ≡ before

-- the disk that is opened, or handed back
abbrev pub disk_in : {D : Type 0} → Result (Redo D) (RedoOpen D) → D
disk_in (Ok redo) = redo.disk
disk_in (Err (opening.BadField disk place)) = disk
disk_in (Err (opening.Failed disk)) = disk
disk_in (Err (opening.Memory disk)) = disk
