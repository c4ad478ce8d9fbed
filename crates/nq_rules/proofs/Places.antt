-- The places of a list, one after another.
use Rattle.std.proofs.Common.{◌≡◌, ℕ, zero, suc, ◌+◌, ◌<◌, ◌≤◌, Bool, true, false, ◌||◌, List, [], ◌∷◌, ◌++◌, length, get_or, take, drop, reverse}
use Rattle.std.proofs.Common.{Some, None, inl, inr, refl, sym, ◌∙◌, ap, subst, arith, add-one}
use Rattle.std.specs.List.{list_any, slice_get}
use Rattle.std.proofs.Math.Seq.{drop-cons}
use Rattle.std.proofs.lemmas.Bool.{cases_Bool}
use Rattle.std.proofs.lemmas.List.{reverse-append, take-append-drop}
use Rattle.std.proofs.lemmas.Option.{slice_get_within, get_or_from_slice_get}
use Rattle.nq_model.specs.laws.JournalTest.{exists}
use Rattle.nq_rules.proofs.Backwards.{last_first}

-- from a place on stand the element there and what stands from the next place on
pub drop_here : {X : Type 0} (xs : List X) (k : ℕ) (x : X) → slice_get xs k ≡ Some x → drop k xs ≡ x ∷ drop (k + 1) xs
drop_here xs k x e =
    let within : k < length xs = slice_get_within xs k x e in
    let here : get_or xs k x ≡ x = get_or_from_slice_get xs k x x e in
    rw add-one (drop-cons xs k x within ∙ ap (λ y. y ∷ drop (suc k) xs) here)

-- up to the next place, backwards
pub taken_here : {X : Type 0} (xs : List X) (k : ℕ) (x : X) → slice_get xs k ≡ Some x → reverse (take (k + 1) xs) ≡ x ∷ reverse (take k xs)
taken_here xs k x e =
    let within : k < length xs = slice_get_within xs k x e in
    let here : get_or xs k x ≡ x = get_or_from_slice_get xs k x x e in
    last_first xs k x within ∙ ap (λ y. y ∷ reverse (take k xs)) here

-- and where it does not, some element passes from the next place on
pub any_past : {X : Type 0} (test : X → Bool) (xs : List X) (k : ℕ) (x : X) → slice_get xs k ≡ Some x → test x ≡ false
    → list_any test (drop k xs) ≡ list_any test (drop (k + 1) xs)
any_past test xs k x e f = rw (drop_here xs k x e, f) refl

-- there is an element at each place
pub some_there : {X : Type 0} (xs : List X) (k : ℕ) → slice_get xs k ≡ None → length xs ≤ k
some_there [] k e = omega arith
some_there (x ∷ xs) zero e = absurd (cc)
some_there (x ∷ xs) (suc k) e = let h = some_there xs k e in omega arith

-- ---- a test of some element, in whatever order they are looked at

or_apart : (a b c : Bool) → (a || (b || c)) ≡ ((a || b) || c)
or_apart true b c = refl
or_apart false b c = refl

exists_apart : {X : Type 0} (test : X → Bool) (ys zs : List X) → exists test (ys ++ zs) ≡ (exists test ys || exists test zs)
exists_apart test [] zs = refl
exists_apart test (y ∷ ys) zs = ap (λ b. test y || b) (exists_apart test ys zs) ∙ or_apart (test y) (exists test ys) (exists test zs)

-- of a list that is looked at backwards, by its two parts
near_parts : {X : Type 0} (test : X → Bool) (xs : List X) (k : ℕ)
    → exists test (reverse xs) ≡ (exists test (reverse (drop k xs)) || exists test (reverse (take k xs)))
near_parts test xs k =
    ap (λ l. exists test (reverse l)) (sym (take-append-drop k xs)) ∙ ap (exists test) (reverse-append (take k xs) (drop k xs))
    ∙ exists_apart test (reverse (drop k xs)) (reverse (take k xs))

-- one that passes among those from a place on
pub near_first : {X : Type 0} (test : X → Bool) (xs front back : List X) (k : ℕ) → front ≡ take k xs → back ≡ drop k xs
    → exists test (reverse back) ≡ true → true ≡ exists test (reverse xs)
near_first test xs front back k f b t =
    sym (near_parts test xs k ∙ ap (λ l. exists test (reverse l) || exists test (reverse (take k xs))) (sym b)
    ∙ ap (λ r. r || exists test (reverse (take k xs))) t)

-- where none of them passes, one of those before it
pub near_then : {X : Type 0} (test : X → Bool) (xs front back : List X) (k : ℕ) → front ≡ take k xs → back ≡ drop k xs
    → exists test (reverse back) ≡ false → exists test (reverse front) ≡ exists test (reverse xs)
near_then test xs front back k f b t =
    sym (near_parts test xs k ∙ ap (λ l. exists test (reverse l) || exists test (reverse (take k xs))) (sym b)
    ∙ ap (λ r. r || exists test (reverse (take k xs))) t ∙ ap (λ l. exists test (reverse l)) (sym f))

-- ---- a place of a journal

exists_later : {X : Type 0} (test : X → Bool) (ys zs : List X) → exists test zs ≡ true → exists test (ys ++ zs) ≡ true
exists_later test [] zs h = h
exists_later test (y ∷ ys) zs h =
    elim (cases_Bool (test y)) [
      | inl t ↦ ap (λ b. b || exists test (ys ++ zs)) t
      | inr f ↦ ap (λ b. b || exists test (ys ++ zs)) f ∙ exists_later test ys zs h
    ]

-- a journal backwards, from a place on
pub parted : {X : Type 0} (xs : List X) (k : ℕ) (x : X) → slice_get xs k ≡ Some x → reverse xs ≡ reverse (drop (k + 1) xs) ++ x ∷ reverse (take k xs)
parted xs k x e =
    ap reverse (sym (take-append-drop (k + 1) xs)) ∙ reverse-append (take (k + 1) xs) (drop (k + 1) xs)
    ∙ ap (λ l. reverse (drop (k + 1) xs) ++ l) (taken_here xs k x e)

pub exists_there : {X : Type 0} (test : X → Bool) (xs : List X) (k : ℕ) (x : X) → slice_get xs k ≡ Some x → test x ≡ true → exists test (reverse xs) ≡ true
exists_there test xs k x e t =
    subst (λ l. exists test l ≡ true) (sym (parted xs k x e))
    (exists_later test (reverse (drop (k + 1) xs)) (x ∷ reverse (take k xs)) (ap (λ b. b || exists test (reverse (take k xs))) t))
