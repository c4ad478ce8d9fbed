-- What holds of each element that is found at a place holds of all.
use Rattle.std.proofs.Common.{◌≡◌, ◌<◌, ℕ, zero, suc, List, [], ◌∷◌, Some, length, refl, arith}
use Rattle.std.specs.Prelude.{slice_get, slice_index_or}

pub all-found : {A : Type 0} (P : A → Type 0) (xs : List A) → ((i : ℕ) (x : A) → slice_get xs i ≡ Some x → P x) → (k : ℕ) (d : A) → k < length xs
    → P (slice_index_or xs k d)
all-found P [] given k d below = absurd (omega arith)
all-found P (y ∷ xs) given zero d below = given 0 y refl
all-found P (y ∷ xs) given (suc k) d below = all-found P xs (λ i x is. given (suc i) x is) k d (omega arith)
