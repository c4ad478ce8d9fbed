-- What a search finds, after each change of the list.
use Rattle.std.proofs.Common.{◌≡◌, ◌≢◌, ◌⊎◌, ℕ, Bool, true, false, ◌==◌, List, [], ◌∷◌, Some, None, if◌then◌else◌, map, refl, subst, ap, arith, inl, inr}
use Rattle.std.specs.List.{find, filter}
use Rattle.std.specs.Option.{option_map}
use Rattle.std.proofs.lemmas.Bool.Decides.{nat_tests}

-- two cases of a test, for what a choice by it gives
pub choice : {A : Type 0} (Q : A → Type 0) (b : Bool) (x y : A) → (b ≡ true → Q x) → (b ≡ false → Q y) → Q (if b then x else y)
choice Q true x y when otherwise = when refl
choice Q false x y when otherwise = otherwise refl

-- a test is true or false
pub decided : (b : Bool) → (b ≡ true) ⊎ (b ≡ false)
decided true = inl refl
decided false = inr refl

pub same-number : (m n : ℕ) → (m == n) ≡ true → m ≡ n
same-number m n h = grind (arith, nat_tests)

pub number-same : (m n : ℕ) → m ≡ n → (m == n) ≡ true
number-same m n h = grind (arith, nat_tests)

pub number-other : (m n : ℕ) → m ≢ n → (m == n) ≡ false
number-other m n h = grind (arith, nat_tests)

pub is-other : (m n : ℕ) → (m == n) ≡ false → m ≢ n
is-other m n h = grind (arith, nat_tests)

find-passes-step : {A : Type 0} (p : A → Bool) (x y : A) (xs : List A) (b : Bool) → p y ≡ b → (find p xs ≡ Some x → p x ≡ true)
    → (if b then Some y else find p xs) ≡ Some x → p x ≡ true
find-passes-step p x y xs true e rest f = let same : y ≡ x = cc in subst (λ z. p z ≡ true) same e
find-passes-step p x y xs false e rest f = rest f

-- what a search finds passes the test
pub find-passes : {A : Type 0} (p : A → Bool) (x : A) (xs : List A) → find p xs ≡ Some x → p x ≡ true
find-passes p x [] h = cc
find-passes p x (y ∷ xs) h = find-passes-step p x y xs (p y) refl (find-passes p x xs) h

find-none-step : {A : Type 0} (p q : A → Bool) (x y : A) (xs : List A) (b c : Bool) → p y ≡ b → (find p xs ≡ None → find q xs ≡ Some x → p x ≡ false)
    → (if b then Some y else find p xs) ≡ None → (if c then Some y else find q xs) ≡ Some x → p x ≡ false
find-none-step p q x y xs true c e rest h f = cc
find-none-step p q x y xs false true e rest h f = let same : y ≡ x = cc in subst (λ z. p z ≡ false) same e
find-none-step p q x y xs false false e rest h f = rest h f

-- where a search finds nothing, what another finds does not pass
pub find-none : {A : Type 0} (p q : A → Bool) (x : A) (xs : List A) → find p xs ≡ None → find q xs ≡ Some x → p x ≡ false
find-none p q x [] h f = cc
find-none p q x (y ∷ xs) h f = find-none-step p q x y xs (p y) (q y) refl (find-none p q x xs) h f

-- a search after a filter whose test each element that is sought passes
find-filter-step : {A : Type 0} (p q : A → Bool) (y : A) (xs : List A) (b c : Bool) → (b ≡ true → c ≡ true) → find p (filter q xs) ≡ find p xs
    → p y ≡ b → q y ≡ c → find p (if c then y ∷ filter q xs else filter q xs) ≡ (if b then Some y else find p xs)
find-filter-step p q y xs true true keeps rest e f = rw e refl
find-filter-step p q y xs true false keeps rest e f = let bad : false ≡ true = keeps refl in cc
find-filter-step p q y xs false true keeps rest e f = rw e rest
find-filter-step p q y xs false false keeps rest e f = rest

pub find-filter : {A : Type 0} (p q : A → Bool) (xs : List A) → ((x : A) → p x ≡ true → q x ≡ true) → find p (filter q xs) ≡ find p xs
find-filter p q [] keeps = refl
find-filter p q (y ∷ xs) keeps = find-filter-step p q y xs (p y) (q y) (keeps y) (find-filter p q xs keeps) refl refl

-- a search after a filter that each element that is sought fails
find-dropped-step : {A : Type 0} (p q : A → Bool) (y : A) (xs : List A) (c : Bool) → (p y ≡ true → c ≡ false) → find p (filter q xs) ≡ None → q y ≡ c
    → find p (if c then y ∷ filter q xs else filter q xs) ≡ None
find-dropped-step p q y xs true fails rest e = head (p y) refl
  where
    head : (b : Bool) → p y ≡ b → (if b then Some y else find p (filter q xs)) ≡ None
    head true f = let bad : true ≡ false = fails f in cc
    head false f = rest
find-dropped-step p q y xs false fails rest e = rest

pub find-dropped : {A : Type 0} (p q : A → Bool) (xs : List A) → ((x : A) → p x ≡ true → q x ≡ false) → find p (filter q xs) ≡ None
find-dropped p q [] fails = refl
find-dropped p q (y ∷ xs) fails = find-dropped-step p q y xs (q y) (fails y) (find-dropped p q xs fails) refl

-- a search after a change that the search does not see
find-map-step : {A : Type 0} (p : A → Bool) (f : A → A) (y : A) (xs : List A) (b : Bool) → p y ≡ b → p (f y) ≡ p y → find p (map f xs) ≡ option_map f
    (find p xs) → (if p (f y) then Some (f y) else find p (map f xs)) ≡ option_map f (if b then Some y else find p xs)
find-map-step p f y xs true e same rest = rw (same, e) refl
find-map-step p f y xs false e same rest = rw (same, e) rest

pub find-map : {A : Type 0} (p : A → Bool) (f : A → A) (xs : List A) → ((x : A) → p (f x) ≡ p x) → find p (map f xs) ≡ option_map f (find p xs)
find-map p f [] same = refl
find-map p f (y ∷ xs) same = find-map-step p f y xs (p y) refl (same y) (find-map p f xs same)

-- ---- a filter of what passed another

within-step : {A : Type 0} (p q : A → Bool) (y : A) (xs : List A) (b c : Bool) → (b ≡ true → c ≡ true) → filter p (filter q xs) ≡ filter p xs
    → p y ≡ b → filter p (if c then y ∷ filter q xs else filter q xs) ≡ (if b then y ∷ filter p xs else filter p xs)
within-step p q y xs true true keeps rest e = rw e (ap (λ ys. y ∷ ys) rest)
within-step p q y xs true false keeps rest e = let bad : false ≡ true = keeps refl in cc
within-step p q y xs false true keeps rest e = rw e rest
within-step p q y xs false false keeps rest e = rest

-- where all that pass it passed the other
pub filter-within : {A : Type 0} (p q : A → Bool) (xs : List A) → ((x : A) → p x ≡ true → q x ≡ true) → filter p (filter q xs) ≡ filter p xs
filter-within p q [] keeps = refl
filter-within p q (y ∷ xs) keeps = within-step p q y xs (p y) (q y) (keeps y) (filter-within p q xs keeps) refl

apart-step : {A : Type 0} (p q : A → Bool) (y : A) (xs : List A) (c : Bool) → (p y ≡ true → c ≡ false) → filter p (filter q xs) ≡ []
    → filter p (if c then y ∷ filter q xs else filter q xs) ≡ []
apart-step p q y xs true fails rest = head (p y) refl
  where
    head : (b : Bool) → p y ≡ b → (if b then y ∷ filter p (filter q xs) else filter p (filter q xs)) ≡ []
    head true f = let bad : true ≡ false = fails f in cc
    head false f = rest
apart-step p q y xs false fails rest = rest

-- where none that pass it passed the other
pub filter-apart : {A : Type 0} (p q : A → Bool) (xs : List A) → ((x : A) → p x ≡ true → q x ≡ false) → filter p (filter q xs) ≡ []
filter-apart p q [] fails = refl
filter-apart p q (y ∷ xs) fails = apart-step p q y xs (q y) (fails y) (filter-apart p q xs fails)

swap-step : {A : Type 0} (p q : A → Bool) (y : A) (xs : List A) (b c : Bool) → p y ≡ b → q y ≡ c → filter p (filter q xs) ≡ filter q (filter p xs)
    → filter p (if c then y ∷ filter q xs else filter q xs) ≡ filter q (if b then y ∷ filter p xs else filter p xs)
swap-step p q y xs true true e f rest = rw (e, f) (ap (λ ys. y ∷ ys) rest)
swap-step p q y xs true false e f rest = rw f rest
swap-step p q y xs false true e f rest = rw e rest
swap-step p q y xs false false e f rest = rest

-- two filters in either order
pub filter-swap : {A : Type 0} (p q : A → Bool) (xs : List A) → filter p (filter q xs) ≡ filter q (filter p xs)
filter-swap p q [] = refl
filter-swap p q (y ∷ xs) = swap-step p q y xs (p y) (q y) refl refl (filter-swap p q xs)
