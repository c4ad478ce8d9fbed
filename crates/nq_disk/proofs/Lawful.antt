-- Ranges of a record without a wrong field.
use Rattle.std.proofs.Common.{◌≡◌, ◌⊎◌, ℕ, zero, suc, ◌+◌, ◌≤◌, max, Bool, true, false, List, length, take, drop, Option, Some, None, refl, ap, ◌∙◌}
use Rattle.std.proofs.Common.{inl, inr, arith}
use Rattle.std.specs.Prelude.{if◌then◌else◌, not, nat_lt}
use Rattle.std.proofs.lemmas.Bool.{cases_lt}
use Rattle.std.proofs.lemmas.Bool.Decides.{nat_tests}
use Rattle.nq_disk.specs.Ranges.{ArePlaced}
use Rattle.nq_disk.specs.Record.{Front, are_zeros, front_range, is_misplaced, ranges_in, ranges_of, then_ranges, then_wrong, word, wrong_field, wrong_range}

module _ (start size bound : ℕ) where
  -- a range that may lie there may lie so on a longer disk
  well-placed : (len more place n : ℕ) → len ≤ more → is_misplaced start size bound len place n ≡ false → (is_misplaced start size bound more place n
      ≡ false) × (place ≤ len) × ((place + n ≤ start) ⊎ (start + size ≤ place))
  unfolding is_misplaced
  well-placed len more place n longer right =
      let a : nat_lt len place ≡ false = grind (arith, nat_tests) in
      let b : place ≤ len = grind (arith, nat_tests) in (
        grind (arith, nat_tests),
        b,
        elim (cases_lt start (place + n)) [
          | inl lt ↦ inr (grind (arith, nat_tests))
          | inr le ↦ inl le
        ],
      )

  -- a range that may lie there ends within the bound
  pub within-bound : (len place n : ℕ) → is_misplaced start size bound len place n ≡ false → place + n ≤ bound
  unfolding is_misplaced
  within-bound len place n right = grind (arith, nat_tests)

  abbrev Lawful : ℕ → Type 0
  Lawful n = (len more at : ℕ) (bytes : List ℕ) → len ≤ more → wrong_range start size bound n len at bytes ≡ None
      → (wrong_range start size bound n more at bytes ≡ None) × ArePlaced len start size (ranges_in n bytes)

  abbrev behind : ℕ → Front → ℕ
  behind len f = max len (f.range.place + length f.range.bytes)

  further : (len more : ℕ) (f : Front) → len ≤ more → behind len f ≤ behind more f
  further len more f le = omega arith

  by-test : (n len more at : ℕ) (bytes : List ℕ) (f : Front) (b : Bool) → len ≤ more → Lawful n → is_misplaced start size bound len f.range.place
      (length f.range.bytes) ≡ b
      → (if b then Some at else wrong_range start size bound n (behind len f) (at + 12 + length f.range.bytes) f.rest) ≡ None
      → (then_wrong start size bound more at bytes (Some f) (wrong_range start size bound n) ≡ None) × ArePlaced len start size
      (then_ranges (Some f) (ranges_in n))
  by-test n len more at bytes f true longer rest is right = absurd (cc)
  by-test n len more at bytes f false longer rest is right =
      let here = well-placed len more f.range.place (length f.range.bytes) longer is in
      let rest_right = rest (behind len f) (behind more f) (at + 12 + length f.range.bytes) f.rest (further len more f longer) right in
      let first = ap (λ (b : Bool). if b then Some at else wrong_range start size bound n (behind more f) (at + 12 + length f.range.bytes) f.rest) here.0 in
      ((first ∙ rest_right.0), (here.1, here.2, rest_right.1))

  by-front : (n len more at : ℕ) (bytes : List ℕ) (f : Option Front) → len ≤ more → Lawful n → then_wrong start size bound len at bytes f
      (wrong_range start size bound n) ≡ None
      → (then_wrong start size bound more at bytes f (wrong_range start size bound n) ≡ None) × ArePlaced len start size (then_ranges f (ranges_in n))
  by-front n len more at bytes None longer rest right = absurd (cc)
  by-front n len more at bytes (Some f) longer rest right = by-test n len more at bytes f (is_misplaced start size bound len f.range.place
      (length f.range.bytes)) longer rest refl right

  -- so do all the ranges of a record without a wrong field
  pub right-longer : (n : ℕ) → Lawful n
  right-longer zero len more at bytes longer right = (refl, tt)
  right-longer (suc n) len more at bytes longer right = by-front n len more at bytes (front_range bytes) longer (right-longer n) right

  -- where none of three tests found a wrong field, the last one decides
  pub three-tests : (a b c : Bool) (x y z : ℕ) (w v : Option ℕ) → (if a then Some x else (if b then Some y else (if c then Some z else w))) ≡ None
      → (w ≡ None) × (v ≡ None → (if a then Some x else (if b then Some y else (if c then Some z else v))) ≡ None)
  three-tests true b c x y z w v is = absurd (cc)
  three-tests false true c x y z w v is = absurd (cc)
  three-tests false false true x y z w v is = absurd (cc)
  three-tests false false false x y z w v is = (is, λ h. h)

  -- a record without a wrong field has none on a longer disk, and its ranges are placed
  pub right-record : (len more : ℕ) (bytes : List ℕ) → len ≤ more → wrong_field start size bound len bytes ≡ None
      → (wrong_field start size bound more bytes ≡ None) × ArePlaced len start size (ranges_of bytes)
  unfolding wrong_field
  right-record len more bytes longer right =
      let tests =
      three-tests (not (are_zeros (take 7 (drop 1 bytes)))) (nat_lt 8 (word (drop 8 bytes))) (not (are_zeros (take 4 (drop 12 bytes)))) (start + 1)
      (start + 8) (start + 12)
      (wrong_range start size bound (word (drop 8 bytes)) len (start + 16) (drop 16 bytes)) (wrong_range start size bound (word (drop 8 bytes)) more
      (start + 16) (drop 16 bytes)) right in
      let ranges = right-longer (word (drop 8 bytes)) len more (start + 16) (drop 16 bytes) longer tests.0 in
      (tests.1 ranges.0, ranges.1)
