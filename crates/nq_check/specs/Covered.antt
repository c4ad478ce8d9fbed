-- How far the delayed writes of each block are covered, up and down. What is lowest is told by how far it is below the highest
-- number that there is.
use Rattle.std.specs.Prelude.{◌≡◌, ◌≤◌, ◌-◌, ℕ, List, ◌∷◌, Bool, true, ◌||◌, nat_lt, ⊤}
use Rattle.nq_base.specs.declared.Entry.{Entry}
use Rattle.nq_base.specs.declared.Entry.TheVariants.{S, L}
use Rattle.nq_rules.specs.Marks.{Spot, mark_at, spot}
use Rattle.nq_check.specs.declared.covering.Reach.{Reach}
use Rattle.nq_model.specs.laws.FateTest.{is_accounted_at}
use Rattle.nq_model.specs.laws.Journal.{Each}
use Rattle.nq_model.specs.laws.JournalTest.{covers, exists}

-- numbers from first to last of a block are no higher, and no lower, than what is told
pub record IsReached (most : ℕ) (reach : Reach) (at : Spot) (first last : ℕ) : Type 0 where
  pub upper : last ≤ mark_at reach.highest.entries at
  pub lower : most - first ≤ mark_at reach.lowest.entries at

-- where the entry is an S or L, what is told of its block reaches to the numbers that it covers
abbrev pub IsCoveredTo : (most : ℕ) → Reach → Entry → Type 0
IsCoveredTo most reach (S who file block first last now) = IsReached most reach (spot who file block) first last
IsCoveredTo most reach (L who file block first last) = IsReached most reach (spot who file block) first last
IsCoveredTo most reach other = ⊤

-- whether numbers from first to last of a block are above all that are covered, or below them
abbrev pub is_outside : (most : ℕ) → Reach → (at : Spot) (first last : ℕ) → Bool
is_outside most reach at first last = nat_lt (mark_at reach.highest.entries at) first || nat_lt (mark_at reach.lowest.entries at) (most - last)

-- no mark is lower than it was, and that of a spot is no lower than a number
pub record IsRaised (at : Spot) (number : ℕ) (old new : List (Spot × ℕ)) : Type 0 where
  pub least : number ≤ mark_at new at
  pub rises : (other : Spot) → mark_at old other ≤ mark_at new other

-- what is told of a block reaches to numbers from first to last now, too
pub record IsExtended (most : ℕ) (at : Spot) (first last : ℕ) (old new : Reach) : Type 0 where
  pub upper : IsRaised at last old.highest.entries new.highest.entries
  pub lower : IsRaised at (most - first) old.lowest.entries new.lowest.entries

-- numbers from first to last of a block were outside of what is covered, and are told now
pub record IsAnew (most : ℕ) (at : Spot) (first last : ℕ) (old new : Reach) : Type 0 where
  pub outside : is_outside most old at first last ≡ true
  pub extended : IsExtended most at first last old new

-- whether an entry is no L, or covers a write
abbrev pub covers_some : (whole : List Entry) → Entry → Bool
covers_some whole (L who file block first last) = exists (covers (L who file block first last)) whole
covers_some whole other = true

-- where it is told how far the entries before it cover, an entry accounts for what it covers, and it is told of that entry, too
abbrev pub Accounts : (most : ℕ) (whole : List Entry) → Entry → (old new : Reach) → Type 0
Accounts most whole entry old new =
    (before : List Entry) → Each (IsCoveredTo most old) before → (is_accounted_at whole entry before ≡ true) × Each (IsCoveredTo most new) (entry ∷ before)
