-- The datagrams of an outbox, up to a place and from it on.
use Rattle.std.proofs.Common.{◌≡◌, ◌≤◌, ◌<◌, ℕ, zero, suc, ◌+◌, List, [], ◌∷◌, ◌++◌, Some, length, map, take, drop, refl, sym, ap, ◌∙◌, append_assoc, arith}
use Rattle.std.proofs.lemmas.List.Sums.{sum_by-cons}
use Rattle.std.specs.List.{sum_by}
use Rattle.std.specs.Prelude.{slice_get}

-- an element at a place that is there
pub record IsThere {A : Type 0} (xs : List A) (k : ℕ) : Type 0 where
  pub element : A
  pub is : slice_get xs k ≡ Some element

pub there : {A : Type 0} (xs : List A) (k : ℕ) → k < length xs → IsThere xs k
there [] k below = absurd (omega arith)
there (x ∷ xs) zero below = record { element = x; is = refl }
there (x ∷ xs) (suc k) below = let rest = there xs k (omega arith) in record { element = rest.element; is = rest.is }

pub map-take-more : {A B : Type 0} (f : A → B) (xs : List A) (k : ℕ) (x : A) → slice_get xs k ≡ Some x → map f (take (suc k) xs) ≡ map f (take k xs)
    ++ f x ∷ []
map-take-more f [] k x e = absurd (cc)
map-take-more f (y ∷ xs) zero x e = let one : y ≡ x = cc in ap (λ z. f z ∷ []) one
map-take-more f (y ∷ xs) (suc k) x e = ap (λ zs. f y ∷ zs) (map-take-more f xs k x e)

pub sum-drop-more : {A : Type 0} (f : A → ℕ) (xs : List A) (k : ℕ) (x : A) → slice_get xs k ≡ Some x → sum_by f (drop k xs) ≡ f x + sum_by f (drop (suc k) xs)
sum-drop-more f [] k x e = absurd (cc)
sum-drop-more f (y ∷ xs) zero x e = let one : y ≡ x = cc in sum_by-cons f y xs ∙ ap (λ z. f z + sum_by f xs) one
sum-drop-more f (y ∷ xs) (suc k) x e = sum-drop-more f xs k x e

pub sum-take-more : {A : Type 0} (f : A → ℕ) (xs : List A) (k : ℕ) (x : A) → slice_get xs k ≡ Some x → sum_by f (take (suc k) xs) ≡ sum_by f (take k xs) + f x
sum-take-more f [] k x e = absurd (cc)
sum-take-more f (y ∷ xs) zero x e = let one : y ≡ x = cc in let first = sum_by-cons f y [] in let same : f y ≡ f x = ap f one in omega arith
sum-take-more f (y ∷ xs) (suc k) x e =
    let rest = sum-take-more f xs k x e in
    let more = sum_by-cons f y (take (suc k) xs) in
    let less = sum_by-cons f y (take k xs) in
    omega arith

pub sum-take-below : {A : Type 0} (f : A → ℕ) (xs : List A) (k : ℕ) → sum_by f (take k xs) ≤ sum_by f xs
sum-take-below f [] zero = omega arith
sum-take-below f [] (suc k) = omega arith
sum-take-below f (y ∷ xs) zero = omega arith
sum-take-below f (y ∷ xs) (suc k) =
    let rest = sum-take-below f xs k in
    let more = sum_by-cons f y xs in
    let less = sum_by-cons f y (take k xs) in
    omega arith

-- what was appended up to a place, and the element there
pub appended-more : {A B : Type 0} (f : A → B) (all : List A) (place : ℕ) (x : A) (old before new : List B) → slice_get all place ≡ Some x → before
    ≡ old ++ map f (take place all) → new ≡ before ++ f x ∷ [] → new ≡ old ++ map f (take (suc place) all)
appended-more f all place x old before new there so_far next =
    next
    ∙ ap (λ ds. ds ++ f x ∷ []) so_far
    ∙ append_assoc old (map f (take place all)) (f x ∷ [])
    ∙ ap (λ ds. old ++ ds) (sym (map-take-more f all place x there))
