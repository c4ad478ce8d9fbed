-- Numbers that are carried out rise.
use Rattle.std.proofs.Common.{◌≡◌, ℕ, Bool, true, false, nat_lt, List, [], ◌∷◌, if◌then◌else◌, refl, arith}
use Rattle.std.proofs.lemmas.Bool.Decides.{nat_tests}
use Rattle.nq_asks.specs.Numbers.{AreAbove, carried}

choice : (last : ℕ) (test : Bool) (one other : List ℕ) → (test ≡ true → AreAbove last one) → (test ≡ false → AreAbove last other)
    → AreAbove last (if test then one else other)
choice last true one other is so = is refl
choice last false one other is so = so refl

pub rise : (last : ℕ) (numbers : List ℕ) → AreAbove last (carried last numbers)
unfolding carried
rise last [] = tt
rise last (number ∷ numbers) =
    choice last (nat_lt last number) _ _ (λ above. (grind (arith, nat_tests), rise number numbers)) (λ old. rise last numbers)
