-- The directory of a name, one byte more at the end.
use Rattle.std.proofs.Common.{◌≡◌, ℕ, ◌+◌, ◌-◌, ◌<◌, ◌≤◌, ◌==◌, true, false, List, [], ◌∷◌, ◌++◌, length, take, get_or, refl, ap, ◌∙◌, sym, arith}
use Rattle.std.proofs.lemmas.List.{take_more}
use Rattle.std.proofs.lemmas.Bool.{eq-eqb}
use Rattle.std.proofs.lemmas.Bool.Decides.{nat_tests}
use Rattle.nq_directory.specs.Prefix.{directory, with_first}

first-kept : (b : ℕ) (ds : List ℕ) (e : ℕ) → with_first b (ds ++ e ∷ []) ≡ b ∷ (ds ++ e ∷ [])
first-kept b [] e = refl
first-kept b (d ∷ ds) e = refl

-- with a dot at the end the whole is the directory
dot-last : (xs : List ℕ) (b : ℕ) → (b == 46) ≡ true → directory (xs ++ b ∷ []) ≡ xs ++ b ∷ []
dot-last [] b h = rw h refl
dot-last (x ∷ xs) b h = ap (with_first x) (dot-last xs b h) ∙ first-kept x xs b

-- another byte at the end is nothing to the directory
no-dot-last : (xs : List ℕ) (b : ℕ) → (b == 46) ≡ false → directory (xs ++ b ∷ []) ≡ directory xs
no-dot-last [] b h = rw h refl
no-dot-last (x ∷ xs) b h = ap (with_first x) (no-dot-last xs b h)

last-of : (xs : List ℕ) (n : ℕ) → 0 < n → n ≤ length xs → take n xs ≡ take (n - 1) xs ++ get_or xs (n - 1) 0 ∷ []
last-of xs n some le =
    let e : n ≡ (n - 1) + 1 = omega arith in
    ap (λ k. take k xs) e ∙ take_more xs (n - 1) 0 (omega arith)

is-no-dot : (b : ℕ) → (b ≡ 46 → ⊥) → (b == 46) ≡ false
is-no-dot b h = grind (arith, nat_tests)

-- a front whose last byte is no dot has the directory of the front that is shorter by one
pub shorter : (xs : List ℕ) (n : ℕ) → 0 < n → n ≤ length xs → (get_or xs (n - 1) 0 ≡ 46 → ⊥) → directory (take n xs) ≡ directory (take (n - 1) xs)
shorter xs n some le h =
    ap directory (last-of xs n some le) ∙ no-dot-last (take (n - 1) xs) (get_or xs (n - 1) 0) (is-no-dot (get_or xs (n - 1) 0) h)

-- a front whose last byte is a dot is its own directory
pub ends : (xs : List ℕ) (n : ℕ) → 0 < n → n ≤ length xs → get_or xs (n - 1) 0 ≡ 46 → directory (take n xs) ≡ take n xs
ends xs n some le h =
    ap directory (last-of xs n some le) ∙ dot-last (take (n - 1) xs) (get_or xs (n - 1) 0) (eq-eqb (get_or xs (n - 1) 0) 46 h) ∙ sym (last-of xs n some le)

-- and so is the empty front
pub empty : (xs : List ℕ) (n : ℕ) → n ≡ 0 → directory (take n xs) ≡ take n xs
empty xs n h = rw h refl
