-- What a record says is what was spelled there.
use Rattle.std.proofs.Common.{◌≡◌, ℕ, ◌+◌, ◌<◌, ◌≤◌, ◌^◌, max, Bool, false, List, [], ◌∷◌, ◌++◌, length, take, drop, Option, Some, None, refl, ap}
use Rattle.std.proofs.Common.{◌∙◌, arith, length-append, append_assoc}
use Rattle.std.specs.Prelude.{if◌then◌else◌, nat_lt}
use Rattle.std.specs.Int.{w32, from_be_bytes, to_be_bytes}
use Rattle.std.proofs.lemmas.Bool.Decides.{nat_tests}
use Rattle.std.proofs.lemmas.List.{take_at, drop_at}
use Rattle.std.proofs.lemmas.Nat.{from_be_bytes-to_be_bytes_4, from_be_bytes-to_be_bytes_8}
use Rattle.nq_disk.specs.Batch.{AreAllowed, AreSpellable, body_of, spelled, spelled_range}
use Rattle.nq_disk.specs.Ranges.{Range}
use Rattle.nq_disk.specs.Record.{Front, front_of, front_range, front_within, is_misplaced, ranges_in, ranges_of, then_ranges, then_wrong, word}
use Rattle.nq_disk.specs.Record.{wrong_field, wrong_range}
use Rattle.nq_disk.specs.declared.redo.area.Area.{Area}

-- bytes that are there fit
front-there : (place : ℕ) (body rest : List ℕ) → front_within place (length body) (body ++ rest) ≡ Some (front_of place body rest)
front-there place body rest =
    let long : nat_lt (length (body ++ rest)) (length body) ≡ false = let l = length-append body rest in grind (arith, nat_tests) in
    ap (λ (b : Bool). if b then None else Some (front_of place (take (length body) (body ++ rest)) (drop (length body) (body ++ rest)))) long
    ∙ ap (λ (t : List ℕ). Some (front_of place t (drop (length body) (body ++ rest)))) (take_at body rest (length body) refl)
    ∙ ap (λ (d : List ℕ). Some (front_of place body d)) (drop_at body rest (length body) refl)

-- a spelled range is read back
pub front-spelled : (range : Range) (rest : List ℕ) → range.place < 2 ^ 64 → length range.bytes < 2 ^ 32 → front_range (spelled_range range ++ rest)
    ≡ Some (front_of range.place range.bytes rest)
front-spelled range rest place_fits length_fits =
    ap (λ (p : ℕ). front_within p (from_be_bytes w32 (to_be_bytes w32 (length range.bytes))) (range.bytes ++ rest)) (from_be_bytes-to_be_bytes_8
    range.place place_fits)
    ∙ ap (λ (n : ℕ). front_within range.place n (range.bytes ++ rest)) (from_be_bytes-to_be_bytes_4 (length range.bytes) length_fits)
    ∙ front-there range.place range.bytes rest

front-first : (range : Range) (ranges : List Range) (rest : List ℕ) → AreSpellable (range ∷ ranges) → front_range (spelled (range ∷ ranges) ++ rest)
    ≡ Some (front_of range.place range.bytes (spelled ranges ++ rest))
front-first range ranges rest fits =
    ap front_range (append_assoc (spelled_range range) (spelled ranges) rest) ∙ front-spelled range (spelled ranges ++ rest) fits.0 fits.1

pub ranges-spelled : (ranges : List Range) (rest : List ℕ) → AreSpellable ranges → ranges_in (length ranges) (spelled ranges ++ rest) ≡ ranges
ranges-spelled [] rest fits = refl
ranges-spelled (range ∷ ranges) rest fits =
    ap (λ (f : Option Front). then_ranges f (ranges_in (length ranges))) (front-first range ranges rest fits)
    ∙ ap (λ (l : List Range). range ∷ l) (ranges-spelled ranges rest fits.2)

module _ (area : Area) where
  not-misplaced : (b : Bool) (at : ℕ) (more : Option ℕ) → b ≡ false → more ≡ None → (if b then Some at else more) ≡ None
  not-misplaced b at more is none = ap (λ (c : Bool). if c then Some at else more) is ∙ none

  pub right-spelled : (ranges : List Range) (len at : ℕ) (rest : List ℕ) → AreSpellable ranges → AreAllowed area len ranges → wrong_range area.place
      area.size area.bound (length ranges) len at (spelled ranges ++ rest) ≡ None
  right-spelled [] len at rest fits allowed = refl
  right-spelled (range ∷ ranges) len at rest fits allowed =
      let more = max len (range.place + length range.bytes) in
      ap (λ (f : Option Front). then_wrong area.place area.size area.bound len at (spelled (range ∷ ranges) ++ rest) f
      (wrong_range area.place area.size area.bound (length ranges))) (front-first range ranges rest fits)
      ∙ not-misplaced (is_misplaced area.place area.size area.bound len range.place (length range.bytes)) at (wrong_range area.place area.size
      area.bound (length ranges) more (at + 12 + length range.bytes) (spelled ranges ++ rest)) allowed.0
      (right-spelled ranges more (at + 12 + length range.bytes) rest fits.2 allowed.1)

-- the number of ranges is read back
pub word-spelled : (n : ℕ) (rest : List ℕ) → n < 2 ^ 32 → word (to_be_bytes w32 n ++ rest) ≡ n
unfolding word
word-spelled n rest fits = from_be_bytes-to_be_bytes_4 n fits

module _ (ranges : List Range) (rest : List ℕ) (few : length ranges ≤ 8) (fits : AreSpellable ranges) where
  count-spelled : word (drop 8 (1 ∷ (body_of ranges ++ rest))) ≡ length ranges
  count-spelled = word-spelled (length ranges) ((0 ∷ 0 ∷ 0 ∷ 0 ∷ spelled ranges) ++ rest) (omega arith)

  -- the ranges of a record are those that were spelled
  pub ranges-of-body : ranges_of (1 ∷ (body_of ranges ++ rest)) ≡ ranges
  ranges-of-body = ap (λ (n : ℕ). ranges_in n (spelled ranges ++ rest)) count-spelled ∙ ranges-spelled ranges rest fits

  wrong-after : (w : ℕ) (at : Option ℕ) (x : ℕ) → w ≡ length ranges → at ≡ None → (if nat_lt 8 w then Some x else at) ≡ None
  wrong-after w at x is none = ap (λ (b : Bool). if b then Some x else at) (test w is) ∙ none
    where
      test : (w : ℕ) → w ≡ length ranges → nat_lt 8 w ≡ false
      test w is = grind (arith, nat_tests)

  -- and none of its fields is wrong
  pub right-body : (area : Area) (len : ℕ) → AreAllowed area len ranges → wrong_field area.place area.size area.bound len (1 ∷ (body_of ranges ++ rest)) ≡ None
  unfolding wrong_field
  right-body area len allowed =
      wrong-after (word (drop 8 (1 ∷ (body_of ranges ++ rest)))) (wrong_range area.place area.size area.bound
      (word (drop 8 (1 ∷ (body_of ranges ++ rest)))) len (area.place + 16) (spelled ranges ++ rest)) (area.place + 8) count-spelled
      (ap (λ (n : ℕ). wrong_range area.place area.size area.bound n len (area.place + 16) (spelled ranges ++ rest)) count-spelled ∙ right-spelled area
      ranges len (area.place + 16) rest fits allowed)
