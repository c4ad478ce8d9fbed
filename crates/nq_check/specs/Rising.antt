-- The times of stores rise.
use Rattle.std.specs.Prelude.{◌≡◌, ◌<◌, ◌≤◌, ℕ, List, Some, ⊤}
use Rattle.std.specs.List.{slice_get}
use Rattle.nq_base.specs.declared.Entry.{Entry}
use Rattle.nq_base.specs.declared.Entry.TheVariants.{S}

-- the time of an S; that which is given where an entry is none
abbrev pub store_time : Entry → (time : ℕ) → ℕ
store_time (S who file block first last now) time = now
store_time other time = time

-- where the entry is an S, its time is no later than this
abbrev pub IsNoLater : (time : ℕ) → Entry → Type 0
IsNoLater time (S who file block first last now) = now ≤ time
IsNoLater time other = ⊤

-- where both entries are S, the first tells no later time
abbrev pub IsNotAfter : (first second : Entry) → Type 0
IsNotAfter first (S who file block low high now) = IsNoLater now first
IsNotAfter first other = ⊤

-- no S before a place tells a later time than an S behind it and before the same place
abbrev pub Rises : (whole : List Entry) (to : ℕ) → Type 0
Rises whole to = (early late : ℕ) (x y : Entry) → early ≤ late → late < to → slice_get whole early ≡ Some x → slice_get whole late ≡ Some y → IsNotAfter x y
