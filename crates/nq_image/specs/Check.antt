-- A grammar as checks in an order: each names the place of a field and says whether the field is as it has to be.
use Rattle.std.specs.Prelude.{◌≡◌, ◌≤◌, ◌⊎◌, ℕ, Bool, false, List, [], ◌∷◌, Result, Ok, Err, if◌then◌else◌}

-- a field has its first byte at this place, and is right or wrong
pub record Check : Type 0 where
  pub place : ℕ
  pub holds : Bool

-- the check of the field at a place
abbrev pub check : (place : ℕ) → (holds : Bool) → Check
check place holds = record { place = place; holds = holds }

-- a value, where no field is wrong; else the place of the first that is
abbrev pub tested : {A : Type 0} → List Check → A → Result A ℕ
tested [] value = Ok value
tested (c ∷ checks) value = if c.holds then tested checks value else Err c.place

-- that no field is wrong, or the place of the first that is
abbrev pub judged : List Check → Result Unit ℕ
judged checks = tested checks tt

-- the checks stand in the order of their places, none before the first place and none behind the last
abbrev pub AreInOrder : (first last : ℕ) → List Check → Type 0
AreInOrder first last [] = first ≤ last
AreInOrder first last (c ∷ checks) = (first ≤ c.place) × AreInOrder c.place last checks

-- a field is wrong that has its first byte at this place
abbrev pub IsWrongAt : (place : ℕ) → List Check → Type 0
IsWrongAt place [] = ⊥
IsWrongAt place (c ∷ checks) = ((c.place ≡ place) × (c.holds ≡ false)) ⊎ IsWrongAt place checks

-- a field is wrong at this place, and none before it
pub record IsLeastWrong (place : ℕ) (checks : List Check) : Type 0 where
  pub wrong : IsWrongAt place checks
  pub least : (other : ℕ) → IsWrongAt other checks → place ≤ other
