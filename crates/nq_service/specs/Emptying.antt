-- What making an empty store of a disk does. Below, `before` and `count` are the disk's counts of faults.
use Rattle.std.specs.Prelude.{◌≡◌, ℕ, Result, Ok, Err}
use Rattle.nq_base.specs.declared.ending.ending.Ending.{Ending}
use Rattle.nq_io.specs.Faults.{Rose}

-- no empty store was made, by the end: the disk failed, which it has counted, or memory was wanting
abbrev pub EmptiesNot : Ending → (before count : ℕ) → Type 0
EmptiesNot Ending.KeepFault before count = Rose before count
EmptiesNot Ending.Memory before count = count ≡ before
EmptiesNot other before count = ⊥

-- the disk of a store, or the one that is handed back
abbrev pub disk_in : {X Y D : Type 0} → (X → D) → (Y → D) → Result X Y → D
disk_in held back (Ok store) = held store
disk_in held back (Err left) = back left
