-- Packets by their numbers.
use Rattle.std.proofs.Common.{◌≡◌, ◌<◌, ◌≤◌, ◌⊎◌, ◌+◌, ℕ, zero, suc, List, [], ◌∷◌, ◌++◌, Some, length, refl, sym, ◌∙◌, arith, inl, inr}
use Rattle.std.specs.Prelude.{slice_get, replicate}
use Rattle.std.proofs.lemmas.Option.{slice_get_past}

-- what stands at a number goes on to stand there
pub get-longer : {A : Type 0} (xs ys : List A) (k : ℕ) (x : A) → slice_get xs k ≡ Some x → slice_get (xs ++ ys) k ≡ Some x
get-longer [] ys k x e = absurd (cc)
get-longer (z ∷ xs) ys zero x e = e
get-longer (z ∷ xs) ys (suc k) x e = get-longer xs ys k x e

-- the same is sent behind as many
pub get-more : {A : Type 0} (xs ys zs : List A) (k : ℕ) → length xs ≡ length ys → slice_get xs k ≡ slice_get ys k
    → slice_get (xs ++ zs) k ≡ slice_get (ys ++ zs) k
get-more [] [] zs k as_many e = refl
get-more [] (y ∷ ys) zs k as_many e = absurd (omega arith)
get-more (x ∷ xs) [] zs k as_many e = absurd (omega arith)
get-more (x ∷ xs) (y ∷ ys) zs zero as_many e = e
get-more (x ∷ xs) (y ∷ ys) zs (suc k) as_many e = get-more xs ys zs k (omega arith) e

-- other numbers are untouched where as many stand in the place of some
pub get-beside : {A : Type 0} (xs ys zs : List A) (k : ℕ) → length ys ≡ length zs → (k < length xs) ⊎ (length xs + length ys ≤ k)
    → slice_get (xs ++ ys) k ≡ slice_get (xs ++ zs) k
get-beside [] ys zs k as_many (inl below) = absurd (omega arith)
get-beside [] ys zs k as_many (inr past) = slice_get_past ys k (omega arith) ∙ sym (slice_get_past zs k (omega arith))
get-beside (x ∷ xs) ys zs zero as_many h = refl
get-beside (x ∷ xs) ys zs (suc k) as_many (inl below) = get-beside xs ys zs k as_many (inl (omega arith))
get-beside (x ∷ xs) ys zs (suc k) as_many (inr past) = get-beside xs ys zs k as_many (inr (omega arith))

get-replicated : {A : Type 0} (n k : ℕ) (x : A) → k < n → slice_get (replicate n x) k ≡ Some x
get-replicated zero k x below = absurd (omega arith)
get-replicated (suc n) zero x below = refl
get-replicated (suc n) (suc k) x below = get-replicated n k x (omega arith)

-- one that stands for so many stands at each of their numbers
pub get-stands : {A : Type 0} (xs : List A) (n k : ℕ) (x : A) → length xs ≤ k → k < length xs + n → slice_get (xs ++ replicate n x) k ≡ Some x
get-stands [] n k x from below = get-replicated n k x (omega arith)
get-stands (y ∷ xs) n zero x from below = absurd (omega arith)
get-stands (y ∷ xs) n (suc k) x from below = get-stands xs n k x (omega arith) (omega arith)
