-- A number for each block as an incarnation knows it.
use Rattle.std.specs.Prelude.{ℕ, List, Bool, ◌&&◌, nat_eq, unwrap_or, if◌then◌else◌, ◌≡◌}
use Rattle.std.specs.Map.{lookup}
use Rattle.nq_base.specs.declared.Who.{Who}

-- an incarnation, its host first, and a file and a block
abbrev pub Spot : Type 0
Spot = (ℕ × ℕ) × (ℕ × ℕ)

abbrev pub spot : (who : Who) (file block : ℕ) → Spot
spot who file block = ((who.host, who.inc), (file, block))

-- whether two spots are one
abbrev pub same_spot : Spot → Spot → Bool
same_spot a b = (nat_eq a.0.0 b.0.0 && nat_eq a.0.1 b.0.1) && (nat_eq a.1.0 b.1.0 && nat_eq a.1.1 b.1.1)

-- the number of a spot, 0 where none was set
abbrev pub mark_at : List (Spot × ℕ) → Spot → ℕ
mark_at marks at = unwrap_or (lookup (same_spot at) marks) 0

-- this spot has this number now, and each other one what it had
abbrev pub IsMarked : (at : Spot) (number : ℕ) → (old new : List (Spot × ℕ)) → Type 0
IsMarked at number old new = (other : Spot) → mark_at new other ≡ (if same_spot at other then number else mark_at old other)
