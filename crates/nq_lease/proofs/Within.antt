-- What is sought among the rows of one file is sought among all rows.
use Rattle.std.proofs.Common.{◌≡◌, ◌⊎◌, ℕ, Bool, true, false, ◌||◌, List, [], ◌∷◌, Some, if◌then◌else◌, refl, ap, inl, inr, arith}
use Rattle.std.specs.List.{find, filter, list_any}
use Rattle.std.proofs.lemmas.Bool.Decides.{nat_tests}
use Rattle.nq_base.specs.declared.Row.{Row}
use Rattle.nq_model.specs.protocol.Table.{is_row_of, find_row}

decided : (b : Bool) → (b ≡ true) ⊎ (b ≡ false)
decided true = inl refl
decided false = inr refl

pub find-within : {X : Type 0} (p q : X → Bool) → ((x : X) → q x ≡ false → p x ≡ false) → (xs : List X) → find p (filter q xs) ≡ find p xs
find-within p q fails [] = refl
find-within p q fails (x ∷ xs) = elim (decided (q x)) [
  | inl e ↦ rw e (ap (λ o. if p x then Some x else o) (find-within p q fails xs))
  | inr e ↦ rw (e, fails x e) (find-within p q fails xs)
]

pub any-within : {X : Type 0} (p q : X → Bool) → ((x : X) → q x ≡ false → p x ≡ false) → (xs : List X) → list_any p (filter q xs) ≡ list_any p xs
any-within p q fails [] = refl
any-within p q fails (x ∷ xs) = elim (decided (q x)) [
  | inl e ↦ rw e (ap (λ b. p x || b) (any-within p q fails xs))
  | inr e ↦ rw (e, fails x e) (any-within p q fails xs)
]

found-passes : {X : Type 0} (p : X → Bool) (x : X) (xs : List X) → find p xs ≡ Some x → p x ≡ true
found-passes p x [] h = cc
found-passes p x (y ∷ xs) h = elim (decided (p y)) [
  | inl e ↦ let found : Some y ≡ Some x = rw e at h in let same : y ≡ x = cc in rw (← same) e
  | inr e ↦ let rest : find p xs ≡ Some x = rw e at h in found-passes p x xs rest
]

same-key : (file host f h : ℕ) (row : Row) (rows : List Row) → f ≡ file → h ≡ host → find_row file host rows ≡ Some row → find_row f h rows ≡ Some row
same-key file host f h row rows d e found = rw (d, e) found

-- a row that is found has the key that was sought
pub own-found : (file host : ℕ) (row : Row) (rows : List Row) → find_row file host rows ≡ Some row → find_row row.file row.who.host rows ≡ Some row
own-found file host row rows h =
    let key = found-passes (is_row_of file host) row rows h in
    let e : row.file ≡ file = grind (arith, nat_tests) in
    let f : row.who.host ≡ host = grind (arith, nat_tests) in
    same-key file host row.file row.who.host row rows e f h
