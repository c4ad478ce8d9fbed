-- Numbers that do not fall, and how many of them are less than one.
use Rattle.std.proofs.Common.{◌≡◌, ℕ, ◌+◌, ◌-◌, ◌/◌, ◌≤◌, ◌<◌, Bool, true, false, if◌then◌else◌, List, suc, zero, get_or, length, refl, sym, subst, arith}
use Rattle.std.specs.List.{prefix_len}
use Rattle.std.specs.List.Sorted.{IsNonDecreasing}
use Rattle.std.specs.Prelude.{nat_lt}
use Rattle.std.proofs.lemmas.Bool.{lt-ltb, le-ltb, ltb-true, ltb-false}
use Rattle.std.proofs.lemmas.List.Sums.{prefix_len_is}

-- a later one is no less
later : (xs : List ℕ) (i j : ℕ) → IsNonDecreasing xs → i ≤ j → j < length xs → get_or xs i 0 ≤ get_or xs j 0
later xs i j rise le lt = rise i j 0 le lt

-- what halving knows: the place lies among the `size` numbers from `base` on, or behind the first of them
pub record IsAmong (xs : List ℕ) (q base size : ℕ) : Type 0 where
  pub some : 0 < size
  pub within : base + size ≤ length xs
  pub before : 0 < base → get_or xs base 0 < q
  pub behind : base + size < length xs → q ≤ get_or xs (base + size) 0

by-half : (b : Bool) (xs : List ℕ) (q base size half moved base' size' : ℕ) → IsNonDecreasing xs → IsAmong xs q base size → 1 < size → half ≡ size / 2
    → nat_lt (get_or xs (base + half) 0) q ≡ b
    → moved ≡ (if b then half else 0) → base' ≡ base + moved → size' ≡ size - half → IsAmong xs q base' size'
by-half true xs q base size half moved base' size' o a more is e m b s =
    let some = a.some in
    let within = a.within in
    let less = ltb-true (get_or xs (base + half) 0) q e in
    let moves : base' ≡ base + half = omega arith in
    let ends : base' + size' ≡ base + size = omega arith in
    record {
      some = omega arith;
      within = omega arith;
      before = λ lt. subst (λ k. get_or xs k 0 < q) (sym moves) less;
      behind = λ lt. subst (λ k. q ≤ get_or xs k 0) (sym ends) (a.behind (omega arith));
    }
by-half false xs q base size half moved base' size' o a more is e m b s =
    let some = a.some in
    let within = a.within in
    let least = ltb-false (get_or xs (base + half) 0) q e in
    let stays : base' ≡ base = omega arith in
    record {
      some = omega arith;
      within = omega arith;
      before = λ lt. subst (λ k. get_or xs k 0 < q) (sym stays) (a.before (omega arith));
      behind = λ lt. let up = later xs (base + half) (base' + size') o (omega arith) lt in omega arith;
    }

pub halves : (xs : List ℕ) (q base size half moved base' size' : ℕ) → IsNonDecreasing xs → IsAmong xs q base size → 1 < size → half ≡ size / 2
    → moved ≡ (if nat_lt (get_or xs (base + half) 0) q then half else 0) → base' ≡ base + moved → size' ≡ size - half → IsAmong xs q base' size'
halves xs q base size half moved base' size' o a more is m b s =
    by-half (nat_lt (get_or xs (base + half) 0) q) xs q base size half moved base' size' o a more is refl m b s

by-last : (b : Bool) (xs : List ℕ) (q base size moved place : ℕ) → IsNonDecreasing xs → IsAmong xs q base size → size ≡ 1 → nat_lt (get_or xs base 0) q ≡ b
    → moved ≡ (if b then 1 else 0) → place ≡ base + moved → place ≡ prefix_len (λ k. nat_lt k q) xs
by-last true xs q base size moved place o a one e m p =
    let within = a.within in
    let less = ltb-true (get_or xs base 0) q e in
    let ends : place ≡ base + size = omega arith in
    sym (prefix_len_is (λ k. nat_lt k q) xs place 0 (omega arith)
    (λ k lt. let up = later xs k base o (omega arith) (omega arith) in lt-ltb (get_or xs k 0) q (omega arith))
    (λ lt. le-ltb (get_or xs place 0) q (subst (λ k. q ≤ get_or xs k 0) (sym ends) (a.behind (omega arith)))))
by-last false xs q base size moved place o a one e m p =
    let within = a.within in
    let before = a.before in
    let least = ltb-false (get_or xs base 0) q e in
    let first : base ≡ 0 = zero-base base (λ lt. let less = before lt in omega arith) in
    let stays : place ≡ base = omega arith in
    sym (prefix_len_is (λ k. nat_lt k q) xs place 0 (omega arith)
    (λ k lt. absurd (omega arith))
    (λ lt. subst (λ k. nat_lt (get_or xs k 0) q ≡ false) (sym stays) e))
  where
    zero-base : (n : ℕ) → (0 < n → ⊥) → n ≡ 0
    zero-base zero h = refl
    zero-base (suc n) h = absurd (h (omega arith))

pub last : (xs : List ℕ) (q base size moved place : ℕ) → IsNonDecreasing xs → IsAmong xs q base size → size ≤ 1
    → moved ≡ (if nat_lt (get_or xs base 0) q then 1 else 0) → place ≡ base + moved → place ≡ prefix_len (λ k. nat_lt k q) xs
last xs q base size moved place o a few m p =
    let some = a.some in
    by-last (nat_lt (get_or xs base 0) q) xs q base size moved place o a (omega arith) refl m p
