-- A value, if it passes a test.
use Rattle.std.proofs.Common.{◌≡◌, Bool, true, false, Some, None, refl, inl, inr, ◌⊎◌}
use Rattle.nq_script.specs.WordsReading.{only_if}

-- a test and what it chooses
pub chosen : {A : Type 0} (test : Bool) (x : A) → ((test ≡ true) × (only_if test x ≡ Some x)) ⊎ ((test ≡ false) × (only_if test x ≡ None))
chosen true x = inl (refl, refl)
chosen false x = inr (refl, refl)

-- what a test let pass
pub only_if_some : {A : Type 0} (test : Bool) (x y : A) → only_if test x ≡ Some y → (test ≡ true) × (x ≡ y)
only_if_some true x y given = (refl, cc)
only_if_some false x y given = cc
