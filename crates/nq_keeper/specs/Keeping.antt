-- What the calls of a keeper do. Below, `told` is what the keeper told of its content before a call and `tells` is what it
-- tells after it.
use Rattle.std.specs.Prelude.{◌≡◌, ◌⊎◌, ◌<◌, ℕ, List, Option, Some, None, Result, Ok, Err, slice_get}
use Rattle.std.specs.Option.{ForSome}
use Rattle.nq_base.specs.declared.Change.{Change}
use Rattle.nq_io.specs.Faults.{Rose}
use Rattle.nq_keeper.specs.declared.keeper.KeepFault.{KeepFault}
use Rattle.nq_keeper.specs.declared.keeper.KeepFault.TheVariants.{Failed, Memory}
use Rattle.nq_model.specs.protocol.Change.{applied}
use Rattle.nq_model.specs.protocol.Kept.{File, Kept}
use Rattle.nq_model.specs.protocol.Profile.{most_hosts}

-- what is told stays, or nothing is told any more
abbrev pub StaysOrEnds : (told tells : Option Kept) → Type 0
StaysOrEnds told tells = (tells ≡ told) ⊎ (tells ≡ None)

-- a call that reads changes nothing. One that fails raises the count of faults, and the keeper may tell nothing from then on
abbrev pub Reads : {X : Type 0} → Result X KeepFault → (told tells : Option Kept) → (before now : ℕ) → Type 0
Reads (Ok found) told tells before now = (tells ≡ told) × (now ≡ before)
Reads (Err Memory) told tells before now = (tells ≡ told) × (now ≡ before)
Reads (Err Failed) told tells before now = StaysOrEnds told tells × Rose before now

-- what is told after a change
abbrev pub told_after : Change → Option Kept → Option Kept
told_after change None = None
told_after change (Some kept) = Some (applied kept change)

-- a change is kept whole, or not at all where it is refused. One that fails raises the count of faults, and the keeper may
-- tell nothing from then on
abbrev pub Commits : Result Unit KeepFault → Change → (told tells : Option Kept) → (before now : ℕ) → Type 0
Commits (Ok done) change told tells before now = (tells ≡ told_after change told) × (now ≡ before)
Commits (Err Memory) change told tells before now = (tells ≡ told) × (now ≡ before)
Commits (Err Failed) change told tells before now = StaysOrEnds told tells × Rose before now

-- a stop leaves what was kept
abbrev pub LeavesOne : (told : Option Kept) → (Option Kept → Type 0) → Type 0
LeavesOne told leaves = ForSome told (λ kept. (found : Option Kept) → leaves found → found ≡ Some kept)

-- a stop leaves what was kept before the change, or after it
abbrev pub LeavesTwo : Change → (told : Option Kept) → (Option Kept → Type 0) → Type 0
LeavesTwo change told leaves =
    ForSome told (λ kept. (found : Option Kept) → leaves found → (found ≡ Some kept) ⊎ (found ≡ Some (applied kept change)))

-- the body of a block of a file
abbrev pub body_at : (block : ℕ) → Option File → Option (List ℕ)
body_at block None = None
body_at block (Some file) = slice_get file.bodies block

-- the row of a host that a change names is that of a host that there can be
abbrev pub NamesHost : Change → Type 0
NamesHost change = ForSome change.host (λ h. h.host < most_hosts)
