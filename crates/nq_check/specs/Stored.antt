-- Which entries are delayed writes that an S covers.
use Rattle.std.specs.Prelude.{◌≡◌, ℕ, List, Some, Bool, true, false, reverse}
use Rattle.std.specs.List.{slice_get}
use Rattle.nq_base.specs.declared.Entry.{Entry}
use Rattle.nq_base.specs.declared.Entry.TheVariants.{W}
use Rattle.nq_model.specs.laws.JournalTest.{is_stored}

-- whether an entry is a delayed write
abbrev pub is_delayed : Entry → Bool
is_delayed (W who file block number value false) = true
is_delayed other = false

-- what is told of a place is whether an S covers the entry there
abbrev pub AreStored : (whole : List Entry) → (stored : List Bool) → Type 0
AreStored whole stored =
    (place : ℕ) (entry : Entry) (told : Bool) → slice_get whole place ≡ Some entry → slice_get stored place ≡ Some told
    → told ≡ is_stored (reverse whole) entry
