-- The rows of a file stand together.
use Rattle.std.proofs.Common.{◌≡◌, ◌⊎◌, ℕ, ◌+◌, ◌-◌, ◌≤◌, Bool, true, false, List, [], ◌∷◌, suc, map, take, drop, refl, sym, ap, inl, inr, arith}
use Rattle.std.specs.List.{filter, prefix_len}
use Rattle.std.specs.Prelude.{nat_lt, nat_le}
use Rattle.std.proofs.lemmas.Bool.Decides.{nat_tests}
use Rattle.nq_base.specs.declared.Row.{Row}
use Rattle.nq_model.specs.protocol.Table.{row_before}
use Rattle.nq_lease.specs.Rows.{StandsBefore, AreInOrder, is_of, is_below, is_upto}
use Rattle.nq_lease.proofs.Splits.{decided}

module _ {X : Type 0} (p q e : X → Bool) where
  -- none of these passes the last test
  abbrev pub Behind : List X → Type 0
  Behind [] = Unit {0}
  Behind (x ∷ xs) = (e x ≡ false) × Behind xs

  -- first those that pass it and the second one, then those that pass neither
  abbrev pub Middle : List X → Type 0
  Middle [] = Unit {0}
  Middle (x ∷ xs) = ((q x ≡ true) × (e x ≡ true) × Middle xs) ⊎ ((q x ≡ false) × (e x ≡ false) × Behind xs)

  -- first those that pass the first two tests and not the last
  abbrev pub Parts : List X → Type 0
  Parts [] = Unit {0}
  Parts (x ∷ xs) = ((p x ≡ true) × (q x ≡ true) × (e x ≡ false) × Parts xs) ⊎ ((p x ≡ false) × Middle (x ∷ xs))

  filter-behind : (xs : List X) → Behind xs → filter e xs ≡ []
  filter-behind [] h = refl
  filter-behind (x ∷ xs) h = rw h.0 (filter-behind xs h.1)

  one-more : (n : ℕ) → 1 + n ≡ suc n
  one-more n = omega arith

  filter-middle : (xs : List X) → Middle xs → take (prefix_len q xs) xs ≡ filter e xs
  filter-middle [] h = refl
  filter-middle (x ∷ xs) (inl h) = rw (h.0, h.1, one-more (prefix_len q xs)) (ap (λ l. x ∷ l) (filter-middle xs h.2))
  filter-middle (x ∷ xs) (inr h) = rw (h.0, h.1) (sym (filter-behind xs h.2))

  -- what passes the last test stands between the places of the first two
  pub filter-parts : (xs : List X) → Parts xs → take (prefix_len q xs - prefix_len p xs) (drop (prefix_len p xs) xs) ≡ filter e xs
  filter-parts [] h = refl
  filter-parts (x ∷ xs) (inl h) =
      let same : (1 + prefix_len q xs) - (1 + prefix_len p xs) ≡ prefix_len q xs - prefix_len p xs = omega arith in
      rw (h.0, h.1, h.2, same, one-more (prefix_len p xs)) (filter-parts xs h.3)
  filter-parts (x ∷ xs) (inr h) =
      let all : (n : ℕ) → n - 0 ≡ n = λ n. omega arith in
      rw (h.0, all (prefix_len q (x ∷ xs))) (filter-middle (x ∷ xs) h.1)

  -- the first place is not behind the second
  pub parts-le : (xs : List X) → Parts xs → prefix_len p xs ≤ prefix_len q xs
  parts-le [] h = omega arith
  parts-le (x ∷ xs) (inl h) = let le = parts-le xs h.3 in rw (h.0, h.1) (omega arith)
  parts-le (x ∷ xs) (inr h) = rw h.0 (omega arith)

  -- a change of those alone that pass the last test leaves what stands before them
  pub take-before : (f : X → X) → ((x : X) → e x ≡ false → f x ≡ x) → (xs : List X) → Parts xs → take (prefix_len p xs) (map f xs) ≡ take (prefix_len p xs) xs
  take-before f same [] h = refl
  take-before f same (x ∷ xs) (inl h) = rw (h.0, same x h.2, one-more (prefix_len p xs)) (ap (λ l. x ∷ l) (take-before f same xs h.3))
  take-before f same (x ∷ xs) (inr h) = rw h.0 refl

  map-behind : (f : X → X) → ((x : X) → e x ≡ false → f x ≡ x) → (xs : List X) → Behind xs → map f xs ≡ xs
  map-behind f same [] h = refl
  map-behind f same (x ∷ xs) h = rw (same x h.0) (ap (λ l. x ∷ l) (map-behind f same xs h.1))

  drop-middle : (f : X → X) → ((x : X) → e x ≡ false → f x ≡ x) → (xs : List X) → Middle xs → drop (prefix_len q xs) (map f xs) ≡ drop (prefix_len q xs) xs
  drop-middle f same [] h = refl
  drop-middle f same (x ∷ xs) (inl h) = rw (h.0, one-more (prefix_len q xs)) (drop-middle f same xs h.2)
  drop-middle f same (x ∷ xs) (inr h) = rw (h.0, same x h.1) (ap (λ l. x ∷ l) (map-behind f same xs h.2))

  -- and what stands behind them
  pub drop-behind : (f : X → X) → ((x : X) → e x ≡ false → f x ≡ x) → (xs : List X) → Parts xs → drop (prefix_len q xs) (map f xs) ≡ drop (prefix_len q xs) xs
  drop-behind f same [] h = refl
  drop-behind f same (x ∷ xs) (inl h) = rw (h.1, one-more (prefix_len q xs)) (drop-behind f same xs h.3)
  drop-behind f same (x ∷ xs) (inr h) = drop-middle f same (x ∷ xs) h.1

-- ---- rows in order

is-other : (file : ℕ) (row r : Row) → nat_le row.file file ≡ false → row_before row r ≡ true → is_of file r ≡ false
is-other file row r h k = grind (arith, nat_tests)

is-no-earlier : (file : ℕ) (row r : Row) → nat_lt row.file file ≡ false → row_before row r ≡ true → nat_lt r.file file ≡ false
is-no-earlier file row r h k = grind (arith, nat_tests)

is-same : (file : ℕ) (r : Row) → nat_lt r.file file ≡ false → nat_le r.file file ≡ true → is_of file r ≡ true
is-same file r h k = grind (arith, nat_tests)

is-later : (file : ℕ) (r : Row) → nat_le r.file file ≡ false → is_of file r ≡ false
is-later file r h = grind (arith, nat_tests)

is-upto : (file : ℕ) (r : Row) → nat_lt r.file file ≡ true → nat_le r.file file ≡ true
is-upto file r h = grind (arith, nat_tests)

is-earlier : (file : ℕ) (r : Row) → nat_lt r.file file ≡ true → is_of file r ≡ false
is-earlier file r h = grind (arith, nat_tests)

all-behind : (file : ℕ) (row : Row) (rows : List Row) → nat_le row.file file ≡ false → StandsBefore row rows → Behind (is_below file) (is_upto file)
    (is_of file) rows
all-behind file row [] h s = tt
all-behind file row (r ∷ rows) h s = (is-other file row r h s.0, all-behind file row rows h s.1)

-- none of these is of an earlier file
abbrev AreFrom : (file : ℕ) → List Row → Type 0
AreFrom file [] = Unit {0}
AreFrom file (r ∷ rows) = (nat_lt r.file file ≡ false) × AreFrom file rows

from-behind : (file : ℕ) (row : Row) (rows : List Row) → nat_lt row.file file ≡ false → StandsBefore row rows → AreFrom file rows
from-behind file row [] h s = tt
from-behind file row (r ∷ rows) h s = (is-no-earlier file row r h s.0, from-behind file row rows h s.1)

middle-of : (file : ℕ) (rows : List Row) → AreFrom file rows → AreInOrder rows → Middle (is_below file) (is_upto file) (is_of file) rows
middle-of file [] h o = tt
middle-of file (r ∷ rows) h o = elim (decided (nat_le r.file file)) [
  | inl e ↦ inl (e, is-same file r h.0 e, middle-of file rows h.1 o.1)
  | inr e ↦ inr (e, is-later file r e, all-behind file r rows e o.0)
]

pub parts-of : (file : ℕ) (rows : List Row) → AreInOrder rows → Parts (is_below file) (is_upto file) (is_of file) rows
parts-of file [] o = tt
parts-of file (r ∷ rows) o = elim (decided (nat_lt r.file file)) [
  | inl e ↦ inl (e, is-upto file r e, is-earlier file r e, parts-of file rows o.1)
  | inr e ↦ inr (e, middle-of file (r ∷ rows) (e, from-behind file r rows e o.0) o)
]
