-- Steps of the loops over ids and free blocks.
use Rattle.std.proofs.Common.{◌≡◌, ◌≤◌, ◌<◌, ◌+◌, ◌-◌, ◌++◌, ℕ, zero, suc, Bool, true, false, List, [], ◌∷◌, Option, length, get_or, take, drop}
use Rattle.std.proofs.Common.{if◌then◌else◌, refl, sym, ap, ◌∙◌, arith, length-append}
use Rattle.std.specs.Prelude.{filter}
use Rattle.std.proofs.lemmas.List.{append_assoc, append-nil, at_drop_more, at_drop_all}
use Rattle.nq_image.specs.Kept.{numbers_from}
use Rattle.nq_image.specs.Standing.{PlacedFile, row_id}
use Rattle.nq_plan.specs.Finding.{nearer, nearest}
use Rattle.nq_plan.specs.Held.{HeldTables}
use Rattle.nq_plan.specs.Placing.{free_blocks, is_free}

-- ---- the least id above another

pub id-passes : (after i : ℕ) (row : Option PlacedFile) (best : Option ℕ) (rows : List (Option PlacedFile)) (whole : Option ℕ) → i < length rows
    → row ≡ get_or rows i row → nearest after best (drop i rows) ≡ whole → nearest after (nearer after (row_id row) best) (drop (i + 1) rows) ≡ whole
id-passes after i row best rows whole lt is so =
    let step : nearest after best (drop i rows) ≡ nearest after (nearer after (row_id (get_or rows i row)) best) (drop (i + 1) rows) =
    at_drop_more (nearest after best) rows i row lt in
    ap (λ (r : Option PlacedFile). nearest after (nearer after (row_id r) best) (drop (i + 1) rows)) is ∙ sym step ∙ so

pub no-id-left : (after i : ℕ) (best : Option ℕ) (rows : List (Option PlacedFile)) (whole : Option ℕ) → length rows ≤ i
    → nearest after best (drop i rows) ≡ whole → best ≡ whole
no-id-left after i best rows whole le so =
    let step : nearest after best (drop i rows) ≡ best = at_drop_all (nearest after best) rows i le in
    sym step ∙ so

-- ---- free blocks

-- what is found of the blocks from one on, so many of them at most
abbrev pub found_from : HeldTables → (left block : ℕ) → (n : ℕ) → List ℕ
found_from held left block n = take left (filter (is_free held) (numbers_from block n))

one-number : (held : HeldTables) (left block n m : ℕ) → n ≡ suc m → found_from held left block n
    ≡ take left (filter (is_free held) (block ∷ numbers_from (block + 1) m))
unfolding numbers_from
one-number held left block n m is = ap (found_from held left block) is

filter-in : (p : ℕ → Bool) (block : ℕ) (rest : List ℕ) → p block ≡ true → filter p (block ∷ rest) ≡ block ∷ filter p rest
filter-in p block rest is = at-true (p block) is
  where
    at-true : (b : Bool) → b ≡ true → (if b then block ∷ filter p rest else filter p rest) ≡ block ∷ filter p rest
    at-true true e = refl
    at-true false e = cc

filter-out : (p : ℕ → Bool) (block : ℕ) (rest : List ℕ) → p block ≡ false → filter p (block ∷ rest) ≡ filter p rest
filter-out p block rest is = at-false (p block) is
  where
    at-false : (b : Bool) → b ≡ false → (if b then block ∷ filter p rest else filter p rest) ≡ filter p rest
    at-false true e = cc
    at-false false e = refl

pub free-passes : (held : HeldTables) (count block : ℕ) (free whole : List ℕ) → block < 16641 → length free < count → is_free held block ≡ true
    → free ++ found_from held (count - length free) block (16641 - block) ≡ whole → (free ++ block ∷ []) ++ found_from held
    (count - length (free ++ block ∷ [])) (block + 1) (16641 - (block + 1)) ≡ whole
free-passes held count block free whole lt few is so =
    let m = 16641 - (block + 1) in
    let next : 16641 - block ≡ suc m = omega arith in
    let left : count - length free ≡ suc (count - length (free ++ block ∷ [])) = omega (arith, length-append free (block ∷ [])) in
    let rest = filter (is_free held) (numbers_from (block + 1) m) in
    append_assoc free (block ∷ []) (take (count - length (free ++ block ∷ [])) rest)
    ∙ sym (ap (λ (n : ℕ). free ++ take n (block ∷ rest)) left)
    ∙ sym (ap (λ (l : List ℕ). free ++ take (count - length free) l) (filter-in (is_free held) block (numbers_from (block + 1) m) is))
    ∙ sym (ap (λ (l : List ℕ). free ++ l) (one-number held (count - length free) block (16641 - block) m next))
    ∙ so

pub given-passes : (held : HeldTables) (count block : ℕ) (free whole : List ℕ) → block < 16641 → is_free held block ≡ false → free ++ found_from held
    (count - length free) block (16641 - block) ≡ whole → free ++ found_from held (count - length free) (block + 1) (16641 - (block + 1)) ≡ whole
given-passes held count block free whole lt is so =
    let m = 16641 - (block + 1) in
    let next : 16641 - block ≡ suc m = omega arith in
    sym (ap (λ (l : List ℕ). free ++ take (count - length free) l) (filter-out (is_free held) block (numbers_from (block + 1) m) is))
    ∙ sym (ap (λ (l : List ℕ). free ++ l) (one-number held (count - length free) block (16641 - block) m next))
    ∙ so

pub all-looked-at : (held : HeldTables) (count block : ℕ) (free whole : List ℕ) → 16641 ≤ block → free ++ found_from held (count - length free) block
    (16641 - block) ≡ whole → free ≡ whole
unfolding numbers_from
all-looked-at held count block free whole le so =
    let none : 16641 - block ≡ 0 = omega arith in
    sym (append-nil free) ∙ sym (ap (λ (l : List ℕ). free ++ l) (take-nothing (count - length free)))
    ∙ sym (ap (λ (n : ℕ). free ++ found_from held (count - length free) block n) none) ∙ so
  where
    take-nothing : (n : ℕ) → take n (filter (is_free held) (numbers_from block 0)) ≡ []
    take-nothing zero = refl
    take-nothing (suc n) = refl

pub none-looked-at : (held : HeldTables) (count : ℕ) → found_from held (count - 0) 0 16641 ≡ free_blocks held count
unfolding free_blocks
none-looked-at held count = ap (λ (n : ℕ). take n (filter (is_free held) (numbers_from 0 16641))) (none-less count)
  where
    none-less : (n : ℕ) → n - 0 ≡ n
    none-less n = omega arith
