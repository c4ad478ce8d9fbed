-- Lists of which the first elements pass one test, perhaps the next one another, and the others neither.
use Rattle.std.proofs.Common.{◌≡◌, ◌⊎◌, ℕ, ◌+◌, Bool, true, false, not, List, [], ◌∷◌, Option, Some, None, if◌then◌else◌, suc, refl, sym, ap, ◌∙◌}
use Rattle.std.proofs.Common.{inl, inr, arith}
use Rattle.std.specs.List.{find, filter, prefix_len, remove, slice_get}

-- none of these passes either test
abbrev pub Passed : {X : Type 0} → (p q : X → Bool) → List X → Type 0
Passed p q [] = Unit {0}
Passed p q (x ∷ xs) = (p x ≡ false) × (q x ≡ false) × Passed p q xs

-- the first ones pass the test p, perhaps the next one q, and the others neither
abbrev pub Split : {X : Type 0} → (p q : X → Bool) → List X → Type 0
Split p q [] = Unit {0}
Split p q (x ∷ xs) = ((p x ≡ true) × (q x ≡ false) × Split p q xs) ⊎ ((p x ≡ false) × Passed p q xs)

-- an element, if it passes
abbrev pub taken : {X : Type 0} → (X → Bool) → Option X → Option X
taken q None = None
taken q (Some x) = if q x then Some x else None

pub decided : (b : Bool) → (b ≡ true) ⊎ (b ≡ false)
decided true = inl refl
decided false = inr refl

pub find-passed : {X : Type 0} (p q : X → Bool) (xs : List X) → Passed p q xs → find q xs ≡ None
find-passed p q [] h = refl
find-passed p q (x ∷ xs) h = rw h.1 (find-passed p q xs h.2)

one-more : (n : ℕ) → 1 + n ≡ suc n
one-more n = omega arith

-- what the second test finds stands where the first one fails
pub find-split : {X : Type 0} (p q : X → Bool) (xs : List X) → Split p q xs → find q xs ≡ taken q (slice_get xs (prefix_len p xs))
find-split p q [] h = refl
find-split p q (x ∷ xs) (inl h) = rw (h.0, h.1, one-more (prefix_len p xs)) (find-split p q xs h.2)
find-split p q (x ∷ xs) (inr h) = rw (h.0, find-passed p q xs h.1) refl

-- a filter that leaves out what is not there
pub filter-none : {X : Type 0} (q : X → Bool) (xs : List X) → find q xs ≡ None → filter (λ x. not (q x)) xs ≡ xs
filter-none q [] h = refl
filter-none q (x ∷ xs) h = elim (decided (q x)) [
  | inl e ↦ let bad : Some x ≡ None = rw e at h in cc
  | inr e ↦ let none : find q xs ≡ None = rw e at h in rw e (ap (λ l. x ∷ l) (filter-none q xs none))
]

-- a filter that leaves out what is there once
pub filter-split : {X : Type 0} (p q : X → Bool) (xs : List X) (y : X) → Split p q xs → find q xs ≡ Some y → filter (λ x. not (q x)) xs
    ≡ remove xs (prefix_len p xs)
filter-split p q [] y s h = cc
filter-split p q (x ∷ xs) y (inl s) h =
    let rest : find q xs ≡ Some y = rw s.1 at h in
    rw (s.0, s.1, one-more (prefix_len p xs)) (ap (λ l. x ∷ l) (filter-split p q xs y s.2 rest))
filter-split p q (x ∷ xs) y (inr s) h = elim (decided (q x)) [
  | inl e ↦ rw (s.0, e) (filter-none q xs (find-passed p q xs s.1))
  | inr e ↦ let bad : Some y ≡ None = sym h ∙ rw e (find-passed p q xs s.1) in cc
]

-- what is found stands at the place
pub get-split : {X : Type 0} (p q : X → Bool) (xs : List X) (y : X) → Split p q xs → find q xs ≡ Some y → slice_get xs (prefix_len p xs) ≡ Some y
get-split p q [] y s h = cc
get-split p q (x ∷ xs) y (inl s) h =
    let rest : find q xs ≡ Some y = rw s.1 at h in
    rw (s.0, one-more (prefix_len p xs)) (get-split p q xs y s.2 rest)
get-split p q (x ∷ xs) y (inr s) h = elim (decided (q x)) [
  | inl e ↦ rw s.0 (rw e at h)
  | inr e ↦ let bad : Some y ≡ None = sym h ∙ rw e (find-passed p q xs s.1) in cc
]
