-- A name found by its front.
use Rattle.std.proofs.Common.{◌≡◌, ◌≢◌, ℕ, ◌+◌, ◌≤◌, ◌<◌, Bool, true, false, List, [], ◌∷◌, Option, Some, None, suc, refl, sym, ap, subst, ◌∙◌, inl}
use Rattle.std.proofs.Common.{inr, arith}
use Rattle.std.specs.List.{find, prefix_len, slice_get}
use Rattle.std.specs.List.Sorted.{IsNonDecreasing}
use Rattle.std.specs.Prelude.{nat_lt}
use Rattle.std.proofs.lemmas.Bool.{ltb-true, ltb-false}
use Rattle.std.proofs.lemmas.List.Sorted.{IsNonDecreasingBy-drop}
use Rattle.nq_model.specs.protocol.Profile.{same_bytes}
use Rattle.nq_directory.specs.Fronts.{front, fronts_of}
use Rattle.nq_directory.specs.Names.{file_if, file_of, is_named, named}
use Rattle.nq_directory.specs.declared.names.FileName.{FileName}
use Rattle.nq_directory.proofs.Called.{same-name}
use Rattle.nq_directory.proofs.Order.{decided, file-taken, one-more, taken}

-- ---- numbers that do not fall

first-le : (x y : ℕ) (ys : List ℕ) → IsNonDecreasing (x ∷ y ∷ ys) → x ≤ y
first-le x y ys rise = rise 0 1 0 (omega arith) (omega arith)

rest-rise : (x : ℕ) (xs : List ℕ) → IsNonDecreasing (x ∷ xs) → IsNonDecreasing xs
rest-rise x xs rise = IsNonDecreasingBy-drop (λ k. k) 1 (x ∷ xs) rise

-- ---- names and their fronts

same-front : (skip : ℕ) (x : FileName) (n : List ℕ) → same_bytes x.name n ≡ true → front skip x.name ≡ front skip n
same-front skip x n h = ap (front skip) (same-name x.name n h)

-- a file whose name has another front has another name
other : (skip : ℕ) (x : FileName) (n : List ℕ) → front skip x.name ≢ front skip n → same_bytes x.name n ≡ false
other skip x n apart = elim (decided (same_bytes x.name n)) [
  | inl e ↦ absurd (apart (same-front skip x n e))
  | inr e ↦ e
]

none-over : (skip : ℕ) (n : List ℕ) (x : FileName) (xs : List FileName) → IsNonDecreasing (fronts_of skip (x ∷ xs)) → front skip n < front skip x.name
    → find (is_named n) xs ≡ None
none-over skip n x [] rise lt = refl
none-over skip n x (y ∷ ys) rise lt =
    let up = first-le (front skip x.name) (front skip y.name) (fronts_of skip ys) rise in
    let off = other skip y n (omega arith) in
    rw off (none-over skip n y ys (rest-rise (front skip x.name) (fronts_of skip (y ∷ ys)) rise) (omega arith))

none-next : (skip : ℕ) (n : List ℕ) (x : FileName) (xs : List FileName) → IsNonDecreasing (fronts_of skip (x ∷ xs)) → front skip n ≤ front skip x.name
    → (slice_get (fronts_of skip xs) 0 ≡ Some (front skip n) → ⊥) → find (is_named n) xs ≡ None
none-next skip n x [] rise le next = refl
none-next skip n x (y ∷ ys) rise le next =
    let up = first-le (front skip x.name) (front skip y.name) (fronts_of skip ys) rise in
    let not-same : front skip y.name ≢ front skip n = λ e. next (ap (λ k. Some k) e) in
    let lt : front skip n < front skip y.name = omega arith in
    let off = other skip y n not-same in
    rw off (none-over skip n y ys (rest-rise (front skip x.name) (fronts_of skip (y ∷ ys)) rise) lt)

-- how many names have a front below that of one
abbrev below : (skip : ℕ) → (n : List ℕ) → List FileName → ℕ
below skip n xs = prefix_len (λ k. nat_lt k (front skip n)) (fronts_of skip xs)

-- where the front behind its place is another, the entry of a name stands at its place
at-front : (skip : ℕ) (n : List ℕ) (xs : List FileName) → IsNonDecreasing (fronts_of skip xs)
    → (slice_get (fronts_of skip xs) (suc (below skip n xs)) ≡ Some (front skip n) → ⊥)
    → find (is_named n) xs ≡ taken n (slice_get xs (below skip n xs))
at-front skip n [] rise next = refl
at-front skip n (x ∷ xs) rise next = by (nat_lt (front skip x.name) (front skip n)) refl next
    (at-front skip n xs (rest-rise (front skip x.name) (fronts_of skip xs) rise))
  where
    by : (b : Bool) → nat_lt (front skip x.name) (front skip n) ≡ b
        → (slice_get (fronts_of skip (x ∷ xs)) (suc (below skip n (x ∷ xs))) ≡ Some (front skip n) → ⊥)
        → ((slice_get (fronts_of skip xs) (suc (below skip n xs)) ≡ Some (front skip n) → ⊥) → find (is_named n) xs ≡ taken n (slice_get xs (below skip n xs)))
        → find (is_named n) (x ∷ xs) ≡ taken n (slice_get (x ∷ xs) (below skip n (x ∷ xs)))
    by true e after rest =
        let lt = ltb-true (front skip x.name) (front skip n) e in
        let off = other skip x n (omega arith) in
        let more = one-more (below skip n xs) in
        rw (e, off, more) (rest (rw (e, more) at after))
    by false e after rest =
        let le = ltb-false (front skip x.name) (front skip n) e in
        rw e (elim (decided (same_bytes x.name n)) [
          | inl k ↦ rw k refl
          | inr k ↦ let none = none-next skip n x xs rise le (rw e at after) in rw (k, none) refl
        ])

-- the file of a name is that of the entry at the place of its front, if this has the name and the next front is another
pub found-front : (skip : ℕ) (n : List ℕ) (names : List FileName) (fronts : List ℕ) (q place : ℕ) (r : Option ℕ) → IsNonDecreasing fronts → fronts
    ≡ fronts_of skip names → q ≡ front skip n
    → place ≡ prefix_len (λ k. nat_lt k q) fronts → (slice_get fronts (place + 1) ≡ Some q → ⊥) → r ≡ file_if n (slice_get names place) → r ≡ named n names
found-front skip n names fronts q place r rise is spelled at next says =
    let count = λ (k : ℕ) (l : List ℕ). prefix_len (λ x. nat_lt x k) l in
    let here : place ≡ below skip n names = at ∙ ap (λ k. count k fronts) spelled ∙ ap (count (front skip n)) is in
    let next' = λ (e : slice_get (fronts_of skip names) (suc (below skip n names)) ≡ Some (front skip n)).
    next (ap (λ l. slice_get l (place + 1)) is ∙ ap (slice_get (fronts_of skip names)) (behind place ∙ ap (λ p. suc p) here) ∙ e
    ∙ ap (λ k. Some k) (sym spelled)) in
    says ∙ ap (λ p. file_if n (slice_get names p)) here
    ∙ sym (ap (λ e. file_of e) (at-front skip n names (subst IsNonDecreasing is rise) next') ∙ file-taken n (slice_get names (below skip n names)))
  where
    behind : (p : ℕ) → p + 1 ≡ suc p
    behind p = omega arith
