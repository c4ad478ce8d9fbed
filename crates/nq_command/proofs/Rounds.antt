-- One more round of a loop that appends.
use Rattle.std.proofs.Common.{◌≡◌, ◌<◌, ℕ, zero, suc, List, [], ◌∷◌, ◌++◌, Some, length, take, refl, sym, ap, ◌∙◌, append_assoc, arith}
use Rattle.std.specs.List.{flat_map}
use Rattle.std.specs.Prelude.{slice_get}
use Rattle.std.proofs.lemmas.List.{flat_map_more}

take-more : {A : Type 0} (xs : List A) (k : ℕ) (x : A) → slice_get xs k ≡ Some x → take (suc k) xs ≡ take k xs ++ x ∷ []
take-more [] k x e = absurd (cc)
take-more (y ∷ xs) zero x e = let one : y ≡ x = cc in ap (λ z. z ∷ []) one
take-more (y ∷ xs) (suc k) x e = ap (λ zs. y ∷ zs) (take-more xs k x e)

-- an element at a place that is there
pub record IsThere {A : Type 0} (xs : List A) (k : ℕ) : Type 0 where
  pub element : A
  pub is : slice_get xs k ≡ Some element

pub there : {A : Type 0} (xs : List A) (k : ℕ) → k < length xs → IsThere xs k
there [] k below = absurd (omega arith)
there (x ∷ xs) zero below = record { element = x; is = refl }
there (x ∷ xs) (suc k) below = let rest = there xs k (omega arith) in record { element = rest.element; is = rest.is }

-- the words of one more element
pub one_more : {A : Type 0} (f : A → List ℕ) (xs : List A) (k : ℕ) (x : A) (old front now new : List ℕ) → slice_get xs k ≡ Some x
    → now ≡ old ++ (front ++ flat_map f (take k xs)) → new ≡ now ++ f x → new ≡ old ++ (front ++ flat_map f (take (suc k) xs))
one_more f xs k x old front now new is so_far more =
    more ∙ ap (λ b. b ++ f x) so_far
    ∙ append_assoc old (front ++ flat_map f (take k xs)) (f x)
    ∙ ap (λ b. old ++ b) (flat_map_more f front (take k xs) x)
    ∙ ap (λ t. old ++ (front ++ flat_map f t)) (sym (take-more xs k x is))
