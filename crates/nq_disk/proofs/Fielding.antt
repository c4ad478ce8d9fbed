-- The fields of the ranges of a record, one range after another.
use Rattle.std.proofs.Common.{◌≡◌, ℕ, suc, ◌+◌, ◌-◌, ◌≤◌, max, Bool, true, false, List, [], ◌∷◌, length, take, drop, Option, Some, None, refl, sym}
use Rattle.std.proofs.Common.{ap, ◌∙◌, arith, length-drop}
use Rattle.std.specs.Prelude.{if◌then◌else◌, nat_lt}
use Rattle.std.specs.Int.{w32, w64, from_be_bytes}
use Rattle.std.proofs.lemmas.Bool.Decides.{nat_tests}
use Rattle.std.proofs.lemmas.List.{length-take-le}
use Rattle.nq_disk.specs.Record.{Front, count_at, front_of, front_range, hyper_at, is_misplaced, then_wrong, unfit_field, wrong_range}

module _ (start size bound : ℕ) where
  -- the next range is as it should be
  pub wrong-next : (n m len then_len at then_at : ℕ) (bytes : List ℕ) (front : Front) → n ≡ suc m → Some front ≡ front_range bytes
      → is_misplaced start size bound len front.range.place (length front.range.bytes) ≡ false
      → then_len ≡ max len (front.range.place + length front.range.bytes) → then_at ≡ at + 12 + length front.range.bytes
      → wrong_range start size bound n len at bytes ≡ wrong_range start size bound m then_len then_at front.rest
  wrong-next n m len then_len at then_at bytes front next here right longer further =
      ap (λ (i : ℕ). wrong_range start size bound i len at bytes) next
      ∙ ap (λ (f : Option Front). then_wrong start size bound len at bytes f (wrong_range start size bound m)) (sym here)
      ∙ ap (λ (b : Bool). if b then Some at else wrong_range start size bound m (max len (front.range.place + length front.range.bytes))
      (at + 12 + length front.range.bytes) front.rest) right
      ∙ ap (λ (a : ℕ). wrong_range start size bound m (max len (front.range.place + length front.range.bytes)) a front.rest) (sym further)
      ∙ ap (λ (l : ℕ). wrong_range start size bound m l then_at front.rest) (sym longer)

  -- it lies where none may lie
  pub wrong-here : (n m len at : ℕ) (bytes : List ℕ) (front : Front) → n ≡ suc m → Some front ≡ front_range bytes → is_misplaced start size bound len
      front.range.place (length front.range.bytes) ≡ true → wrong_range start size bound n len at bytes ≡ Some at
  wrong-here n m len at bytes front next here wrong =
      ap (λ (i : ℕ). wrong_range start size bound i len at bytes) next
      ∙ ap (λ (f : Option Front). then_wrong start size bound len at bytes f (wrong_range start size bound m)) (sym here)
      ∙ ap (λ (b : Bool). if b then Some at else wrong_range start size bound m (max len (front.range.place + length front.range.bytes))
      (at + 12 + length front.range.bytes) front.rest) wrong

  -- none fits there
  pub wrong-unfit : (n m len at : ℕ) (bytes : List ℕ) → n ≡ suc m → None ≡ front_range bytes → wrong_range start size bound n len at bytes
      ≡ Some (unfit_field start size bound len at (hyper_at bytes) (count_at bytes))
  wrong-unfit n m len at bytes next here =
      ap (λ (i : ℕ). wrong_range start size bound i len at bytes) next
      ∙ ap (λ (f : Option Front). then_wrong start size bound len at bytes f (wrong_range start size bound m)) (sym here)

  pub wrong-end : (n len at : ℕ) (bytes : List ℕ) → n ≡ 0 → wrong_range start size bound n len at bytes ≡ None
  wrong-end n len at bytes none = ap (λ (i : ℕ). wrong_range start size bound i len at bytes) none

within-length : (place n : ℕ) (rest : List ℕ) (front : Front) (b : Bool) → nat_lt (length rest) n ≡ b → Some front
    ≡ (if b then None else Some (front_of place (take n rest) (drop n rest))) → length front.range.bytes + length front.rest ≡ length rest
within-length place n rest front true is here = absurd (cc)
within-length place n rest front false is here =
    let le : n ≤ length rest = grind (arith, nat_tests) in
    let same : front ≡ front_of place (take n rest) (drop n rest) = cc in
    let body : length front.range.bytes ≡ n = ap (λ (f : Front). length f.range.bytes) same ∙ length-take-le n rest le in
    let behind : length front.rest ≡ length rest - n = ap (λ (f : Front). length f.rest) same ∙ length-drop n rest in
    omega arith

-- how long a range is as it is spelled
pub front-length : (bytes : List ℕ) (front : Front) → Some front ≡ front_range bytes → 12 + length front.range.bytes + length front.rest ≡ length bytes
front-length [] front is = absurd (cc)
front-length (a ∷ []) front is = absurd (cc)
front-length (a ∷ b ∷ []) front is = absurd (cc)
front-length (a ∷ b ∷ c ∷ []) front is = absurd (cc)
front-length (a ∷ b ∷ c ∷ d ∷ []) front is = absurd (cc)
front-length (a ∷ b ∷ c ∷ d ∷ e ∷ []) front is = absurd (cc)
front-length (a ∷ b ∷ c ∷ d ∷ e ∷ f ∷ []) front is = absurd (cc)
front-length (a ∷ b ∷ c ∷ d ∷ e ∷ f ∷ g ∷ []) front is = absurd (cc)
front-length (a ∷ b ∷ c ∷ d ∷ e ∷ f ∷ g ∷ h ∷ []) front is = absurd (cc)
front-length (a ∷ b ∷ c ∷ d ∷ e ∷ f ∷ g ∷ h ∷ i ∷ []) front is = absurd (cc)
front-length (a ∷ b ∷ c ∷ d ∷ e ∷ f ∷ g ∷ h ∷ i ∷ j ∷ []) front is = absurd (cc)
front-length (a ∷ b ∷ c ∷ d ∷ e ∷ f ∷ g ∷ h ∷ i ∷ j ∷ k ∷ []) front is = absurd (cc)
front-length (a ∷ b ∷ c ∷ d ∷ e ∷ f ∷ g ∷ h ∷ i ∷ j ∷ k ∷ l ∷ rest) front is =
    let all = within-length (from_be_bytes w64 (a ∷ b ∷ c ∷ d ∷ e ∷ f ∷ g ∷ h ∷ [])) (from_be_bytes w32 (i ∷ j ∷ k ∷ l ∷ [])) rest front
    (nat_lt (length rest) (from_be_bytes w32 (i ∷ j ∷ k ∷ l ∷ []))) refl is in
    omega arith
