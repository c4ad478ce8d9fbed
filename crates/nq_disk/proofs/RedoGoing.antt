-- Steps of a change, one call after another.
use Rattle.std.proofs.Common.{◌≡◌, ◌⊎◌, ℕ, zero, suc, List, [], ◌∷◌, length, Option, Some, None, refl, sym, ap, subst, ◌∙◌, inl, inr}
use Rattle.std.specs.Prelude.{Result, Ok, Err, OnOk}
use Rattle.nq_disk.specs.Calling.{LeavesTorn, Writes, told_after}
use Rattle.nq_disk.specs.declared.disk.DiskFault.{DiskFault}
use Rattle.nq_disk.specs.Bytes.{written}
use Rattle.nq_disk.specs.Ranges.{Range, Among, Settling, applied}
use Rattle.nq_disk.specs.Record.{Front, front_range, ranges_in, then_ranges}
use Rattle.nq_disk.specs.Saying.{Each}
use Rattle.nq_disk.proofs.Settling.{settling-torn}

-- what was so through the first part of the time, and is so through the second, is so through both
pub through : (P : List ℕ → Type 0) (A B : Type 0) (c : List ℕ) → A ⊎ B → (A → P c) → (B → P c) → P c
through P A B c (inl a) f h = f a
through P A B c (inr b) f h = h b

-- one of the ranges written, after others
pub step-settles : (ranges : List Range) (range : Range) (old : List ℕ) (may leaves : List ℕ → Type 0) → Among ranges range
    → Each may (Settling ranges old) → LeavesTorn range.place (length range.bytes) may leaves → Each leaves (Settling ranges old)
step-settles ranges range old may leaves here so torn image left = let from = torn image left in settling-torn ranges range old from.0 image here
    (so from.0 from.1) from.2

-- the next range
pub ranges-step : (n m : ℕ) (bytes : List ℕ) (front : Front) → n ≡ suc m → Some front ≡ front_range bytes → ranges_in n bytes ≡ front.range
    ∷ ranges_in m front.rest
ranges-step n m bytes front next here =
    ap (λ (i : ℕ). ranges_in i bytes) next ∙ ap (λ (f : Option Front). then_ranges f (ranges_in m)) (sym here)

-- and where there is none
pub ranges-none : (n : ℕ) (bytes : List ℕ) → None ≡ front_range bytes → ranges_in n bytes ≡ []
ranges-none zero bytes none = refl
ranges-none (suc n) bytes none = ap (λ (f : Option Front). then_ranges f (ranges_in n)) (sym none)

-- the bytes as told after the next range
pub told-step : (ranges rest : List Range) (range : Range) (old now : List ℕ) (all : List Range) → ranges ≡ range ∷ rest → applied ranges now
    ≡ applied all old → applied rest (written range.place range.bytes now) ≡ applied all old
told-step ranges rest range old now all is same = subst (λ (l : List Range). applied l now ≡ applied all old) is same

-- no range is left
pub told-end : (ranges : List Range) (old now : List ℕ) (all : List Range) → ranges ≡ [] → applied ranges now ≡ applied all old → now ≡ applied all old
told-end ranges old now all is same = subst (λ (l : List Range). applied l now ≡ applied all old) is same

-- what is so where a call answered Ok
pub on-ok : (result : Result Unit DiskFault) (P : Type 0) → (result ≡ Ok tt → P) → OnOk result P
on-ok (Ok tt) P f = f refl
on-ok (Err fault) P f = tt

-- and what is known where it did
pub then-ok : (result : Result Unit DiskFault) (P : Type 0) → result ≡ Ok tt → OnOk result P → P
then-ok result P is known = subst (λ (r : Result Unit DiskFault). OnOk r P) is known

pub then-writes : (result : Result Unit DiskFault) (place : ℕ) (bytes : List ℕ) (told tells : Option (List ℕ)) (old : List ℕ) → result ≡ Ok tt
    → Writes result place bytes told tells → told ≡ Some old → tells ≡ Some (written place bytes old)
then-writes result place bytes told tells old is writes tell =
    subst (λ (r : Result Unit DiskFault). Writes r place bytes told tells) is writes ∙ ap (told_after place bytes) tell
