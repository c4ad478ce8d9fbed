-- The digits of a number: those of its tenth, if it has one, and the last.
use Rattle.std.proofs.Common.{◌≡◌, ℕ, ◌+◌, ◌/◌, ◌%◌, ◌≤◌, ◌<◌, ◌^◌, List, [], ◌∷◌, ◌++◌, length, take, get_or, append_assoc, arith, suc, ap, sym, ◌∙◌}
use Rattle.std.specs.Fmt.{decimal}
use Rattle.std.specs.List.{AllByRecursion, flat_map}
use Rattle.std.proofs.lemmas.Fmt.{decimal_step, decimal_digit}
use Rattle.std.proofs.lemmas.List.{take_more, flat_map_more}
use Rattle.nq_script.specs.Words.{spaced}

pub more : (n : ℕ) (old front new : List ℕ) → n < 2 ^ 64 → 10 ≤ n → front ≡ old ++ decimal (n / 10) → new ≡ front ++ (48 + n % 10) ∷ [] → new ≡ old
    ++ decimal n
more n old front new small big first last =
    last
    ∙ ap (λ xs. xs ++ (48 + n % 10) ∷ []) first
    ∙ append_assoc old (decimal (n / 10)) ((48 + n % 10) ∷ [])
    ∙ ap (λ xs. old ++ xs) (sym (decimal_step n big small))

pub one : (n : ℕ) (old new : List ℕ) → n < 10 → new ≡ old ++ (48 + n % 10) ∷ [] → new ≡ old ++ decimal n
one n old new small last =
    let same : n % 10 ≡ n = omega arith in
    last ∙ ap (λ d. old ++ (48 + d) ∷ []) same ∙ ap (λ xs. old ++ xs) (sym (decimal_digit n small))

-- one number more, behind its blank
pub one_number : (numbers : List ℕ) (place : ℕ) (old now blank new : List ℕ) → place < length numbers → now ≡ old
    ++ flat_map (λ n. spaced (decimal n)) (take place numbers) → blank ≡ now ++ 32 ∷ [] → new ≡ blank ++ decimal (get_or numbers place 0) → new ≡ old
    ++ flat_map (λ n. spaced (decimal n)) (take (place + 1) numbers)
one_number numbers place old now blank new within before pushed digits =
    let number = get_or numbers place 0 in
    digits
    ∙ ap (λ xs. xs ++ decimal number) pushed
    ∙ append_assoc now (32 ∷ []) (decimal number)
    ∙ ap (λ xs. xs ++ spaced (decimal number)) before
    ∙ flat_map_more (λ n. spaced (decimal n)) old (take place numbers) number
    ∙ ap (λ ns. old ++ flat_map (λ n. spaced (decimal n)) ns) (sym (take_more numbers place 0 within))

-- numbers of which each is below 2^64
pub all_below : (numbers : List ℕ) → ((place : ℕ) → get_or numbers place 0 < 2 ^ 64) → AllByRecursion (λ n. n < 2 ^ 64) numbers
all_below [] below = tt
all_below (number ∷ numbers) below = (below 0, all_below numbers (λ place. below (suc place)))
