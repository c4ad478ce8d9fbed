-- The last number that was carried out.
use Rattle.std.proofs.Common.{◌≡◌, ◌<◌, ◌≤◌, ℕ, Bool, true, false, nat_lt, if◌then◌else◌, refl, arith}
use Rattle.std.proofs.lemmas.Bool.Decides.{nat_tests}
use Rattle.nq_asks.specs.Numbers.{last_behind}

-- behind an ask that is carried out it is the number of that ask
pub risen : (last number : ℕ) → last < number → last_behind last number ≡ number
risen last number above = by_test (nat_lt last number) refl
  where
    by_test : (test : Bool) → nat_lt last number ≡ test → (if test then number else last) ≡ number
    by_test true e = refl
    by_test false e = absurd (grind (arith, nat_tests))

-- and it never falls
pub not_lower : (last number : ℕ) → last ≤ last_behind last number
not_lower last number = by_test (nat_lt last number) refl
  where
    by_test : (test : Bool) → nat_lt last number ≡ test → last ≤ (if test then number else last)
    by_test true e = grind (arith, nat_tests)
    by_test false e = omega arith
