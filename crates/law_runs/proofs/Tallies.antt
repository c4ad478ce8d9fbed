-- Sums over lists, and what is in a list after each change of it.
use Rattle.std.proofs.Common.{◌≡◌, ◌≤◌, ◌⊎◌, ℕ, ◌+◌, Bool, true, false, not, List, [], ◌∷◌, ◌++◌, Some, map, reverse, filter, find, nat_le}
use Rattle.std.proofs.Common.{if◌then◌else◌, refl, sym, subst, ap, arith, inl, inr}
use Rattle.std.proofs.lemmas.Grind.{reverse_onto}
use Rattle.nq_model.proofs.Lists.{exists-left, exists-right, exists-append, each-append}
use Rattle.nq_model.specs.protocol.ByFile.{up_to, past, add_by}
use Rattle.nq_model.specs.laws.Journal.{Each, Exists}

-- ---- sums

pub tally : {X : Type 0} → (X → ℕ) → List X → ℕ
tally f [] = 0
tally f (x ∷ xs) = f x + tally f xs

pub tally-nil : {X : Type 0} (f : X → ℕ) → tally f [] ≡ 0
unfolding tally
tally-nil f = refl

pub tally-cons : {X : Type 0} (f : X → ℕ) (x : X) (xs : List X) → tally f (x ∷ xs) ≡ f x + tally f xs
unfolding tally
tally-cons f x xs = refl

pub tally-append : {X : Type 0} (f : X → ℕ) (xs ys : List X) → tally f (xs ++ ys) ≡ tally f xs + tally f ys
unfolding tally
tally-append f [] ys = omega arith
tally-append f (x ∷ xs) ys = let rest = tally-append f xs ys in omega arith

pub tally-reverse : {X : Type 0} (f : X → ℕ) (xs : List X) → tally f (reverse xs) ≡ tally f xs
unfolding tally
tally-reverse f [] = refl
tally-reverse f (x ∷ xs) =
    let turned : tally f (reverse (x ∷ xs)) ≡ tally f (reverse xs ++ x ∷ []) = ap (tally f) (reverse_onto xs x []) in
    let split = tally-append f (reverse xs) (x ∷ []) in
    let rest = tally-reverse f xs in
    omega arith

pub tally-map : {X Y : Type 0} (f : Y → ℕ) (g : X → ℕ) (h : X → Y) (xs : List X) → ((x : X) → f (h x) ≡ g x) → tally f (map h xs) ≡ tally g xs
unfolding tally
tally-map f g h [] same = refl
tally-map f g h (x ∷ xs) same = let here = same x in let rest = tally-map f g h xs same in omega arith

-- what passes a test and what does not make up the whole
split-step : {X : Type 0} (f : X → ℕ) (x : X) (b : Bool) (passes others xs : List X) → tally f passes + tally f others ≡ tally f xs
    → tally f (if b then x ∷ passes else passes) + tally f (if not b then x ∷ others else others) ≡ f x + tally f xs
unfolding tally
split-step f x true passes others xs rest = omega arith
split-step f x false passes others xs rest = omega arith

pub tally-split : {X : Type 0} (f : X → ℕ) (p : X → Bool) (xs : List X) → tally f (filter p xs) + tally f (filter (λ x. not (p x)) xs) ≡ tally f xs
unfolding tally
tally-split f p [] = refl
tally-split f p (x ∷ xs) = split-step f x (p x) (filter p xs) (filter (λ y. not (p y)) xs) xs (tally-split f p xs)

-- ---- what is in a list

abbrev pub IsOne : {X : Type 0} → List X → X → Type 0
IsOne xs x = Exists (λ y. y ≡ x) xs

-- one that is there counts
pub tally-one : {X : Type 0} (f : X → ℕ) (x : X) (xs : List X) → IsOne xs x → f x ≤ tally f xs
unfolding tally
tally-one f x [] h = absurd h
tally-one f x (y ∷ xs) (inl e) = let same : f y ≡ f x = ap f e in omega arith
tally-one f x (y ∷ xs) (inr h) = let rest = tally-one f x xs h in omega arith

pub each-reverse : {X : Type 0} (F : X → Type 0) (xs : List X) → Each F xs → Each F (reverse xs)
each-reverse F [] h = tt
each-reverse F (x ∷ xs) h = subst (Each F) (sym (reverse_onto xs x [])) (each-append F (reverse xs) (x ∷ []) (each-reverse F xs h.1) (h.0, tt))

pub each-mapped : {X Y : Type 0} (F : Y → Type 0) (g : X → Y) (xs : List X) → ((x : X) → IsOne xs x → F (g x)) → Each F (map g xs)
each-mapped F g [] f = tt
each-mapped F g (x ∷ xs) f = (f x (inl refl), each-mapped F g xs (λ y h. f y (inr h)))

-- the elements that pass a test
filter-step : {X : Type 0} (p : X → Bool) (x y : X) (xs : List X) (b : Bool) → p y ≡ b → (IsOne (filter p xs) x → IsOne xs x × (p x ≡ true))
    → IsOne (if b then y ∷ filter p xs else filter p xs) x → ((y ≡ x) ⊎ IsOne xs x) × (p x ≡ true)
filter-step p x y xs true e rest (inl same) = (inl same, subst (λ z. p z ≡ true) same e)
filter-step p x y xs true e rest (inr h) = let k = rest h in (inr k.0, k.1)
filter-step p x y xs false e rest h = let k = rest h in (inr k.0, k.1)

pub one-passed : {X : Type 0} (p : X → Bool) (x : X) (xs : List X) → IsOne (filter p xs) x → IsOne xs x × (p x ≡ true)
one-passed p x [] h = absurd h
one-passed p x (y ∷ xs) h = filter-step p x y xs (p y) refl (one-passed p x xs) h

passes-step : {X : Type 0} (p : X → Bool) (x y : X) (xs : List X) (b : Bool) → p y ≡ b → p x ≡ true → (IsOne xs x → IsOne (filter p xs) x)
    → (y ≡ x) ⊎ IsOne xs x → IsOne (if b then y ∷ filter p xs else filter p xs) x
passes-step p x y xs true e pass rest (inl same) = inl same
passes-step p x y xs true e pass rest (inr h) = inr (rest h)
passes-step p x y xs false e pass rest (inl same) = let no : p x ≡ false = subst (λ z. p z ≡ false) same e in absurd (cc)
passes-step p x y xs false e pass rest (inr h) = rest h

pub one-passes : {X : Type 0} (p : X → Bool) (x : X) (xs : List X) → p x ≡ true → IsOne xs x → IsOne (filter p xs) x
one-passes p x [] pass h = h
one-passes p x (y ∷ xs) pass h = passes-step p x y xs (p y) refl pass (one-passes p x xs pass) h

pub one-mapped : {X Y : Type 0} (g : X → Y) (xs : List X) (y : Y) → IsOne (map g xs) y → (x : X) × IsOne xs x × (g x ≡ y)
one-mapped g [] y h = absurd h
one-mapped g (x ∷ xs) y (inl e) = (x, inl refl, e)
one-mapped g (x ∷ xs) y (inr h) = let k = one-mapped g xs y h in (k.0, inr k.1, k.2)

found-step : {X : Type 0} (p : X → Bool) (x y : X) (xs : List X) (b : Bool) → (find p xs ≡ Some x → IsOne xs x)
    → (if b then Some y else find p xs) ≡ Some x → (y ≡ x) ⊎ IsOne xs x
found-step p x y xs true rest e = inl cc
found-step p x y xs false rest e = inr (rest e)

pub one-found : {X : Type 0} (p : X → Bool) (x : X) (xs : List X) → find p xs ≡ Some x → IsOne xs x
one-found p x [] e = absurd (cc)
one-found p x (y ∷ xs) e = found-step p x y xs (p y) (one-found p x xs) e

-- where an element is found and all that passes a test with it is taken away, the rest counts less by that element at least
pub tally-taken : {X : Type 0} (f : X → ℕ) (p : X → Bool) (x : X) (xs : List X) → IsOne xs x → p x ≡ true
    → tally f (filter (λ y. not (p y)) xs) + f x ≤ tally f xs
tally-taken f p x xs there pass =
    let split = tally-split f p xs in
    let counts = tally-one f x (filter p xs) (one-passes p x xs pass there) in
    omega arith

-- ---- elements that are put behind those of their file

pub tally-added : {X : Type 0} (f : X → ℕ) (file_of : X → ℕ) (file : ℕ) (more xs : List X) → tally f (add_by file_of file more xs) ≡ tally f xs + tally f more
tally-added f file_of file more xs =
    let outer = tally-append f (up_to file_of file xs ++ more) (past file_of file xs) in
    let inner = tally-append f (up_to file_of file xs) more in
    let split = tally-split f (λ x. nat_le (file_of x) file) xs in
    omega arith

pub one-added : {X : Type 0} (file_of : X → ℕ) (file : ℕ) (more xs : List X) (x : X) → IsOne (add_by file_of file more xs) x → IsOne (xs ++ more) x
one-added file_of file more xs x h = step (exists-append (λ y. y ≡ x) (up_to file_of file xs ++ more) (past file_of file xs) h)
  where
    before : IsOne (up_to file_of file xs) x ⊎ IsOne more x → IsOne (xs ++ more) x
    before (inl a) = exists-left (λ y. y ≡ x) xs more (one-passed (λ y. nat_le (file_of y) file) x xs a).0
    before (inr b) = exists-right (λ y. y ≡ x) xs more b

    step : IsOne (up_to file_of file xs ++ more) x ⊎ IsOne (past file_of file xs) x → IsOne (xs ++ more) x
    step (inl a) = before (exists-append (λ y. y ≡ x) (up_to file_of file xs) more a)
    step (inr b) = exists-left (λ y. y ≡ x) xs more (one-passed (λ y. not (nat_le (file_of y) file)) x xs b).0

pub added-one : {X : Type 0} (file_of : X → ℕ) (file : ℕ) (more xs : List X) (x : X) → IsOne (xs ++ more) x → IsOne (add_by file_of file more xs) x
added-one file_of file more xs x h = step (exists-append (λ y. y ≡ x) xs more h)
  where
    early : IsOne (up_to file_of file xs ++ more) x → IsOne (add_by file_of file more xs) x
    early a = exists-left (λ y. y ≡ x) (up_to file_of file xs ++ more) (past file_of file xs) a

    sorted : (b : Bool) → nat_le (file_of x) file ≡ b → IsOne xs x → IsOne (add_by file_of file more xs) x
    sorted true e one = early (exists-left (λ y. y ≡ x) (up_to file_of file xs) more (one-passes (λ y. nat_le (file_of y) file) x xs e one))
    sorted false e one =
        exists-right (λ y. y ≡ x) (up_to file_of file xs ++ more) (past file_of file xs)
        (one-passes (λ y. not (nat_le (file_of y) file)) x xs (ap not e) one)

    step : IsOne xs x ⊎ IsOne more x → IsOne (add_by file_of file more xs) x
    step (inl a) = sorted (nat_le (file_of x) file) refl a
    step (inr b) = early (exists-right (λ y. y ≡ x) (up_to file_of file xs) more b)
