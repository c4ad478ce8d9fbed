-- What is in a list after each change of it.
use Rattle.std.proofs.Common.{◌≡◌, ◌⊎◌, Bool, true, false, List, [], ◌∷◌, Some, None, if◌then◌else◌, map, refl, sym, subst, ap, inl, inr, ℕ, Option, ◌∙◌}
use Rattle.std.proofs.lemmas.Grind.{reverse_onto}
use Rattle.std.specs.List.{find, filter}
use Rattle.std.specs.Prelude.{reverse}
use Rattle.nq_base.specs.declared.Push.{Push}
use Rattle.walk_steps.proofs.ClientMoves.{some-same, none-some}
use Rattle.nq_model.specs.protocol.Client.{is_push_of}
use Rattle.nq_model.specs.protocol.Hear.{push_of}
use Rattle.nq_model.specs.laws.Journal.{Each, Exists}
use Rattle.walk_steps.proofs.Packets.{In, in-left, in-right, in-last}
use Rattle.walk_steps.proofs.Rows.{same-number}

-- ---- those that pass a test

filter-step : {X : Type 0} (test : X → Bool) (y x : X) (xs : List X) (b : Bool) → test y ≡ b → (In (filter test xs) x → In xs x × (test x ≡ true))
    → In (if b then y ∷ filter test xs else filter test xs) x → ((y ≡ x) ⊎ In xs x) × (test x ≡ true)
filter-step test y x xs true e rest (inl same) = (inl same, subst (λ z. test z ≡ true) same e)
filter-step test y x xs true e rest (inr i) = let k = rest i in (inr k.0, k.1)
filter-step test y x xs false e rest i = let k = rest i in (inr k.0, k.1)

pub in-filter : {X : Type 0} (test : X → Bool) (xs : List X) (x : X) → In (filter test xs) x → In xs x × (test x ≡ true)
in-filter test [] x h = absurd h
in-filter test (y ∷ xs) x h = filter-step test y x xs (test y) refl (in-filter test xs x) h

-- what is left of a list was there
pub in-filtered : {X : Type 0} (test : X → Bool) (xs : List X) (x : X) → In (filter test xs) x → In xs x
in-filtered test xs x h = (in-filter test xs x h).0

stays-step : {X : Type 0} (test : X → Bool) (y x : X) (xs : List X) (b : Bool) → test y ≡ b → test x ≡ true → (In xs x → In (filter test xs) x)
    → (y ≡ x) ⊎ In xs x → In (if b then y ∷ filter test xs else filter test xs) x
stays-step test y x xs true e passes rest (inl same) = inl same
stays-step test y x xs true e passes rest (inr i) = inr (rest i)
stays-step test y x xs false e passes rest (inl same) = let yes : test y ≡ true = subst (λ z. test z ≡ true) (sym same) passes in absurd (cc)
stays-step test y x xs false e passes rest (inr i) = rest i

pub filter-in : {X : Type 0} (test : X → Bool) (xs : List X) (x : X) → test x ≡ true → In xs x → In (filter test xs) x
filter-in test [] x passes h = absurd h
filter-in test (y ∷ xs) x passes h = stays-step test y x xs (test y) refl passes (filter-in test xs x passes) h

-- ---- the first that passes a test

find-step : {X : Type 0} (test : X → Bool) (y x : X) (xs : List X) (b : Bool) → (find test xs ≡ Some x → In xs x)
    → (if b then Some y else find test xs) ≡ Some x → (y ≡ x) ⊎ In xs x
find-step test y x xs true rest e = inl (some-same y x e)
find-step test y x xs false rest e = inr (rest e)

pub find-in : {X : Type 0} (test : X → Bool) (xs : List X) (x : X) → find test xs ≡ Some x → In xs x
find-in test [] x e = none-some x e
find-in test (y ∷ xs) x e = find-step test y x xs (test y) (find-in test xs x) e

absent-step : {X : Type 0} (test : X → Bool) (y x : X) (xs : List X) (b : Bool) → test y ≡ b → (find test xs ≡ None → In xs x → test x ≡ false)
    → (if b then Some y else find test xs) ≡ None → (y ≡ x) ⊎ In xs x → test x ≡ false
absent-step test y x xs true e rest none i = none-some y (sym none)
absent-step test y x xs false e rest none (inl same) = subst (λ z. test z ≡ false) same e
absent-step test y x xs false e rest none (inr i) = rest none i

pub find-absent : {X : Type 0} (test : X → Bool) (xs : List X) (x : X) → find test xs ≡ None → In xs x → test x ≡ false
find-absent test [] x none h = absurd h
find-absent test (y ∷ xs) x none h = absent-step test y x xs (test y) refl (find-absent test xs x) none h

-- ---- other lists

pub in-map : {X Y : Type 0} (f : X → Y) (xs : List X) (y : Y) → In (map f xs) y → (x : X) × In xs x × (f x ≡ y)
in-map f [] y h = absurd h
in-map f (x ∷ xs) y (inl e) = (x, inl refl, e)
in-map f (x ∷ xs) y (inr h) = let k = in-map f xs y h in (k.0, inr k.1, k.2)

pub map-in : {X Y : Type 0} (f : X → Y) (xs : List X) (x : X) → In xs x → In (map f xs) (f x)
map-in f [] x h = absurd h
map-in f (y ∷ xs) x (inl e) = inl (ap f e)
map-in f (y ∷ xs) x (inr h) = inr (map-in f xs x h)

pub in-reverse : {X : Type 0} (xs : List X) (x : X) → In (reverse xs) x → In xs x
in-reverse [] x i = i
in-reverse (y ∷ xs) x i = case (in-last (reverse xs) y x (subst (λ zs. In zs x) (reverse_onto xs y []) i)) (in-reverse xs x)
  where
    case : In (reverse xs) x ⊎ (y ≡ x) → (In (reverse xs) x → In xs x) → (y ≡ x) ⊎ In xs x
    case (inl j) rest = inr (rest j)
    case (inr same) rest = inl same

pub reverse-in : {X : Type 0} (xs : List X) (x : X) → In xs x → In (reverse xs) x
reverse-in [] x h = h
reverse-in (y ∷ xs) x (inl e) = subst (λ zs. In zs x) (sym (reverse_onto xs y [])) (in-right (reverse xs) (y ∷ []) x (inl e))
reverse-in (y ∷ xs) x (inr h) = subst (λ zs. In zs x) (sym (reverse_onto xs y [])) (in-left (reverse xs) (y ∷ []) x (reverse-in xs x h))

-- a push under way that is on the file
pub in-push-of : (file : ℕ) (push : Option Push) (p : Push) → In (push_of file push) p → (push ≡ Some p) × (p.file ≡ file)
in-push-of file None p there = absurd there
in-push-of file (Some q) p there = step (is_push_of file q) refl there
  where
    step : (b : Bool) → is_push_of file q ≡ b → In (if b then q ∷ [] else []) p → (Some q ≡ Some p) × (p.file ≡ file)
    step true e (inl same) = (ap Some same, ap (λ z. z.file) (sym same) ∙ same-number q.file file e)
    step true e (inr bad) = absurd bad
    step false e bad = absurd bad

-- ---- each and some

pub each-in : {X : Type 0} (P : X → Type 0) (xs : List X) → ((x : X) → In xs x → P x) → Each P xs
each-in P [] f = tt
each-in P (x ∷ xs) f = (f x (inl refl), each-in P xs (λ y i. f y (inr i)))

pub in-exists : {X : Type 0} (P : X → Type 0) (xs : List X) (x : X) → In xs x → P x → Exists P xs
in-exists P [] x i p = absurd i
in-exists P (y ∷ ys) x (inl e) p = inl (subst P (sym e) p)
in-exists P (y ∷ ys) x (inr i) p = inr (in-exists P ys x i p)

pub exists-in : {X : Type 0} (P : X → Type 0) (xs : List X) → Exists P xs → (x : X) × In xs x × P x
exists-in P [] h = absurd h
exists-in P (x ∷ xs) (inl p) = (x, inl refl, p)
exists-in P (x ∷ xs) (inr h) = let r = exists-in P xs h in (r.0, inr r.1, r.2)
