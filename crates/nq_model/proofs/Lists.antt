-- What each element of a list has, and what some element has.
use Rattle.std.proofs.Common.{◌⊎◌, List, [], ◌∷◌, ◌++◌, inl, inr}
use Rattle.nq_model.specs.laws.Journal.{Each, Exists}

-- ---- each element

pub each-of : {X : Type 0} (F : X → Type 0) (xs : List X) → ((x : X) → F x) → Each F xs
each-of F [] f = tt
each-of F (x ∷ xs) f = (f x, each-of F xs f)

pub each-map : {X : Type 0} (F G : X → Type 0) (xs : List X) → ((x : X) → F x → G x) → Each F xs → Each G xs
each-map F G [] f h = tt
each-map F G (x ∷ xs) f h = (f x h.0, each-map F G xs f h.1)

pub each-append : {X : Type 0} (F : X → Type 0) (xs ys : List X) → Each F xs → Each F ys → Each F (xs ++ ys)
each-append F [] ys h k = k
each-append F (x ∷ xs) ys h k = (h.0, each-append F xs ys h.1 k)

-- ---- some element

pub exists-map : {X : Type 0} (F G : X → Type 0) (xs : List X) → ((x : X) → F x → G x) → Exists F xs → Exists G xs
exists-map F G [] f h = h
exists-map F G (x ∷ xs) f (inl h) = inl (f x h)
exists-map F G (x ∷ xs) f (inr h) = inr (exists-map F G xs f h)

pub exists-left : {X : Type 0} (F : X → Type 0) (xs ys : List X) → Exists F xs → Exists F (xs ++ ys)
exists-left F [] ys h = absurd h
exists-left F (x ∷ xs) ys (inl h) = inl h
exists-left F (x ∷ xs) ys (inr h) = inr (exists-left F xs ys h)

pub exists-right : {X : Type 0} (F : X → Type 0) (xs ys : List X) → Exists F ys → Exists F (xs ++ ys)
exists-right F [] ys h = h
exists-right F (x ∷ xs) ys h = inr (exists-right F xs ys h)

pub exists-append : {X : Type 0} (F : X → Type 0) (xs ys : List X) → Exists F (xs ++ ys) → Exists F xs ⊎ Exists F ys
exists-append F [] ys h = inr h
exists-append F (x ∷ xs) ys (inl h) = inl (inl h)
exists-append F (x ∷ xs) ys (inr h) = step (exists-append F xs ys h)
  where
    step : Exists F xs ⊎ Exists F ys → (F x ⊎ Exists F xs) ⊎ Exists F ys
    step (inl a) = inl (inr a)
    step (inr b) = inr b
