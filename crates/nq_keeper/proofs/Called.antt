-- Names, as they are compared.
use Rattle.std.proofs.Common.{◌≡◌, ◌≢◌, ℕ, Bool, true, false, ◌&&◌, ◌==◌, List, [], ◌∷◌, refl}
use Rattle.nq_model.specs.protocol.Profile.{same_bytes}
use Rattle.nq_model.proofs.Finding.{same-number, number-same}

-- a name is that of itself
pub same-self : (a : List ℕ) → same_bytes a a ≡ true
same-self [] = refl
same-self (x ∷ xs) = rw (number-same x x refl) (same-self xs)

same-first : (x y : ℕ) (b c : Bool) (us vs : List ℕ) → (x == y) ≡ b → (b && c) ≡ true → (c ≡ true → us ≡ vs) → x ∷ us ≡ y ∷ vs
same-first x y true c us vs e h rest = let own : x ≡ y = same-number x y e in let others : us ≡ vs = rest h in cc
same-first x y false c us vs e h rest = cc

-- and of no other
pub same-name : (a b : List ℕ) → same_bytes a b ≡ true → a ≡ b
same-name [] [] h = refl
same-name [] (y ∷ ys) h = cc
same-name (x ∷ xs) [] h = cc
same-name (x ∷ xs) (y ∷ ys) h = same-first x y (x == y) (same_bytes xs ys) xs ys refl h (same-name xs ys)

pub other-name : (a b : List ℕ) → a ≢ b → same_bytes a b ≡ false
other-name a b apart = by (same_bytes a b) refl
  where
    by : (c : Bool) → same_bytes a b ≡ c → c ≡ false
    by true e = absurd (apart (same-name a b e))
    by false e = refl
