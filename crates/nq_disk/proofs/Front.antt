-- The first bytes of a disk, where no range of a record lies.
use Rattle.std.proofs.Common.{◌≡◌, ◌⊎◌, ℕ, zero, suc, ◌+◌, ◌<◌, ◌≤◌, max, Bool, true, false, List, length, get_or, take, drop, Option, Some, None, Ok}
use Rattle.std.proofs.Common.{refl, sym, ap, subst, ◌∙◌, inl, inr, arith}
use Rattle.std.specs.Prelude.{if◌then◌else◌, nat_lt, not}
use Rattle.std.proofs.lemmas.Bool.{cases_eq, cases_lt}
use Rattle.std.proofs.lemmas.Bool.Decides.{nat_tests}
use Rattle.nq_disk.specs.Ranges.{OutsideAll, applied}
use Rattle.nq_disk.specs.Record.{Front, are_zeros, blanked, front_range, is_misplaced, ranges_in, ranges_of, record_at, replayed, then_ranges}
use Rattle.nq_disk.specs.Record.{then_wrong, word, wrong_field, wrong_range}
use Rattle.nq_disk.specs.Whole.{found}
use Rattle.nq_disk.specs.declared.redo.area.Area.{Area}
use Rattle.nq_disk.proofs.Lawful.{three-tests}
use Rattle.nq_disk.proofs.Opening.{blanked-outside, opened-closed, opened-open}
use Rattle.nq_disk.proofs.Settling.{applied-outside}

module _ (start size bound : ℕ) where
  -- a range that may lie there is outside of the first seven bytes
  clear-of : (len place n k : ℕ) → k < 7 → is_misplaced start size bound len place n ≡ false → (k < place) ⊎ (place + n ≤ k)
  unfolding is_misplaced
  clear-of len place n k lt right = elim (cases_lt k place) [
    | inl before ↦ inl before
    | inr le ↦ let none : place + n ≡ 0 = grind (arith, nat_tests) in inr (omega (arith, none))
  ]

  abbrev Clear : ℕ → ℕ → Type 0
  Clear k n = (len at : ℕ) (bytes : List ℕ) → wrong_range start size bound n len at bytes ≡ None → OutsideAll k (ranges_in n bytes)

  by-test : (k : ℕ) → k < 7 → (n len at : ℕ) (f : Front) (b : Bool) → Clear k n → is_misplaced start size bound len f.range.place (length f.range.bytes) ≡ b
      → (if b then Some at else wrong_range start size bound n (max len (f.range.place + length f.range.bytes)) (at + 12 + length f.range.bytes) f.rest) ≡ None
      → OutsideAll k (then_ranges (Some f) (ranges_in n))
  by-test k lt n len at f true rest is right = absurd (cc)
  by-test k lt n len at f false rest is right = (
    clear-of len f.range.place (length f.range.bytes) k lt is,
    rest (max len (f.range.place + length f.range.bytes))
        (at + 12 + length f.range.bytes) f.rest right,
  )

  by-front : (k : ℕ) → k < 7 → (n len at : ℕ) (bytes : List ℕ) (f : Option Front) → Clear k n → then_wrong start size bound len at bytes f
      (wrong_range start size bound n) ≡ None → OutsideAll k (then_ranges f (ranges_in n))
  by-front k lt n len at bytes None rest right = absurd (cc)
  by-front k lt n len at bytes (Some f) rest right = by-test k lt n len at f (is_misplaced start size bound len f.range.place (length f.range.bytes))
      rest refl right

  all-clear : (k : ℕ) → k < 7 → (n : ℕ) → Clear k n
  all-clear k lt zero len at bytes right = tt
  all-clear k lt (suc n) len at bytes right = by-front k lt n len at bytes (front_range bytes) (all-clear k lt n) right

  record-clear : (k : ℕ) → k < 7 → (len : ℕ) (bytes : List ℕ) → wrong_field start size bound len bytes ≡ None → OutsideAll k (ranges_of bytes)
  unfolding wrong_field
  record-clear k lt len bytes right =
      let wrong = wrong_range start size bound (word (drop 8 bytes)) len (start + 16) (drop 16 bytes) in
      let tests = three-tests start size bound (not (are_zeros (take 7 (drop 1 bytes)))) (nat_lt 8 (word (drop 8 bytes)))
      (not (are_zeros (take 4 (drop 12 bytes)))) (start + 1) (start + 8) (start + 12) wrong wrong right in
      all-clear k lt (word (drop 8 bytes)) len (start + 16) (drop 16 bytes) tests.0

-- a record that is written leaves them
replay-stays : (area : Area) (disk after content : List ℕ) (k : ℕ) → k < 7 → k < area.place → (o : Option ℕ) → wrong_field area.place area.size
    area.bound (length disk) content ≡ o → content ≡ record_at area.place area.size disk
    → replayed area.place area.size disk o ≡ Ok after → get_or after k 0 ≡ get_or disk k 0
replay-stays area disk after content k lt before (Some wrong) test read replay = absurd (cc)
replay-stays area disk after content k lt before None test read replay =
    let ranges = ranges_of (record_at area.place area.size disk) in
    let same : applied ranges (blanked area.place area.size disk) ≡ after = cc in
    let Right : List ℕ → Type 0 = λ bytes. wrong_field area.place area.size area.bound (length disk) bytes ≡ None in
    ap (λ (d : List ℕ). get_or d k 0) (sym same)
    ∙ applied-outside ranges (blanked area.place area.size disk) k (record-clear area.place area.size area.bound k lt (length disk)
    (record_at area.place area.size disk) (subst Right read test))
    ∙ blanked-outside area.place area.size area.bound disk k (inl before)

-- an open changes none of the first seven bytes
pub front-stays : (area : Area) (disk after : List ℕ) (k : ℕ) → k < 7 → k < area.place → found area disk ≡ Ok after → get_or after k 0 ≡ get_or disk k 0
front-stays area disk after k lt before is = elim (cases_eq (get_or disk area.place 0) 1) [
  | inl gate ↦
      let content = record_at area.place area.size disk in
      replay-stays area disk after content k lt before (wrong_field area.place area.size area.bound (length disk) content) refl refl
      (sym (opened-open area.place area.size area.bound disk gate) ∙ is)
  | inr shut ↦
      let same : blanked area.place area.size disk ≡ after = let e = sym (opened-closed area.place area.size area.bound disk shut) ∙ is in cc in
      ap (λ (d : List ℕ). get_or d k 0) (sym same) ∙ blanked-outside area.place area.size area.bound disk k (inl before)
]
