-- Decimal digits read from the left, and the number that they make.
use Rattle.std.proofs.Common.{◌≡◌, ℕ, ◌+◌, ◌-◌, ◌*◌, ◌^◌, ◌<◌, ◌≤◌, Bool, true, false, ◌&&◌, nat_le, nat_lt, List, [], ◌∷◌, length, drop, get_or}
use Rattle.std.proofs.Common.{Option, Some, None, refl, ap, sym, ◌∙◌, inl, inr, arith, rules, lit<}
use Rattle.std.specs.Fmt.{decimal}
use Rattle.std.specs.Option.{IfSome}
use Rattle.std.proofs.lemmas.Bool.{cases_Bool, and_parts, leb-true, ltb-true, lt-ltb, true≢false}
use Rattle.std.proofs.lemmas.Bool.Decides.{nat_tests, leb_tells}
use Rattle.std.proofs.lemmas.Fmt.{decimal_digit, decimal_nonempty, first_decimal, digits_decimal, digits_value-decimal, decimal-digits_value}
use Rattle.std.proofs.lemmas.List.{drop_all}
use Rattle.std.proofs.lemmas.Str.Parse.{IsNumeralModel, numerals_by_fold}
use Rattle.nq_base.specs.Steps.{◌>>=◌}
use Rattle.nq_base.proofs.Options.{bind_some}
use Rattle.nq_script.specs.WordsReading.{only_if, with_digit, digits_after, is_digit, is_plain, u64_of, u32_of}
use Rattle.nq_script.proofs.LineWords.{IsFree, IsWord}
use Rattle.nq_script.proofs.Options.{only_if_some}
use Rattle.nq_script.proofs.WordsCuts.{drop_at_place}

-- at a place the number takes the digit there
pub digits_at_place : (n : ℕ) (word : List ℕ) (place : ℕ) → place < length word → digits_after n (drop place word)
    ≡ (with_digit n (get_or word place 0) >>= λ more. digits_after more (drop (place + 1) word))
unfolding digits_after
digits_at_place n word place within = ap (digits_after n) (drop_at_place word place within)

-- at the end it is whole
pub digits_at_end : (n : ℕ) (word : List ℕ) (place : ℕ) → length word ≤ place → digits_after n (drop place word) ≡ Some n
unfolding digits_after
digits_at_end n word place past = ap (digits_after n) (drop_all place word past)

pub digits_none : (n : ℕ) (word : List ℕ) (place : ℕ) → place < length word → None ≡ with_digit n (get_or word place 0)
    → digits_after n (drop place word) ≡ None
digits_none n word place within none =
    digits_at_place n word place within ∙ ap (λ o. o >>= λ more. digits_after more (drop (place + 1) word)) (sym none)

pub digits_some : (n m : ℕ) (word : List ℕ) (place : ℕ) → place < length word → Some m ≡ with_digit n (get_or word place 0)
    → digits_after n (drop place word) ≡ digits_after m (drop (place + 1) word)
digits_some n m word place within some =
    digits_at_place n word place within ∙ ap (λ o. o >>= λ more. digits_after more (drop (place + 1) word)) (sym some)

-- digits, one by one
abbrev all_digits : List ℕ → Bool
all_digits [] = true
all_digits (b ∷ bytes) = is_digit b && all_digits bytes

-- the number that goes on with these digits
abbrev read_on : ℕ → List ℕ → ℕ
read_on n [] = n
read_on n (b ∷ bytes) = read_on (n * 10 + (b - 48)) bytes

own : IsNumeralModel (λ bytes. all_digits bytes ≡ true) (read_on 0)
own = numerals_by_fold _ (search rules) read_on (search rules)

-- digits make a number no less
more_digits : (bytes : List ℕ) (n : ℕ) → n ≤ read_on n bytes
more_digits [] n = omega arith
more_digits (b ∷ bytes) n = let more = more_digits bytes (n * 10 + (b - 48)) in omega arith

digits_found : (bytes : List ℕ) (n v : ℕ) → n < 2 ^ 64 → digits_after n bytes ≡ Some v → (all_digits bytes ≡ true) × (read_on n bytes ≡ v) × (v < 2 ^ 64)
unfolding digits_after with_digit
digits_found [] n v small read = let same : n ≡ v = cc in (refl, same, omega arith)
digits_found (b ∷ bytes) n v small read =
    let m = n * 10 + (b - 48) in
    let step = bind_some (with_digit n b) (λ more. digits_after more bytes) v read in
    let passed = only_if_some (is_digit b && nat_lt m (2 ^ 64)) m step.0 step.1 in
    let parts = and_parts (is_digit b) (nat_lt m (2 ^ 64)) passed.0 in
    let below : m < 2 ^ 64 = ltb-true m (2 ^ 64) parts.1 in
    let rest = digits_found bytes m v below (ap (λ k. digits_after k bytes) passed.1 ∙ step.2) in
    (rw parts.0 rest.0, rest.1, rest.2)

digits_again : (bytes : List ℕ) (n : ℕ) → all_digits bytes ≡ true → read_on n bytes < 2 ^ 64 → digits_after n bytes ≡ Some (read_on n bytes)
unfolding digits_after with_digit
digits_again [] n digits small = refl
digits_again (b ∷ bytes) n digits small =
    let m = n * 10 + (b - 48) in
    let parts = and_parts (is_digit b) (all_digits bytes) digits in
    let below : m < 2 ^ 64 = omega (arith, more_digits bytes m) in
    let test = lt-ltb m (2 ^ 64) below in
    rw (parts.0, test) (digits_again bytes m parts.1 small)

plain_found : (word : List ℕ) → is_plain word ≡ true → (0 < length word) × (get_or word 0 0 ≡ 48 → length word ≡ 1)
plain_found word plain = grind (arith, nat_tests)

-- a number that is read is spelled so
pub u64_found : (word : List ℕ) (n : ℕ) → u64_of word ≡ Some n → (word ≡ decimal n) × (n < 2 ^ 64)
unfolding u64_of
u64_found word n read = elim (cases_Bool (is_plain word)) [
  | inl plain ↦
      let digits : digits_after 0 word ≡ Some n = rw plain at read in
      let found = digits_found word 0 n (lit< tt) digits in
      let first = plain_found word plain in
      let spelled = decimal-digits_value own word found.0 first.0 first.1 (omega arith) in
      (sym spelled ∙ ap decimal found.1, found.2)
  | inr bare ↦ let none : None ≡ Some n = rw bare at read in cc
]

first_digit : (n : ℕ) → n < 2 ^ 64 → is_plain (decimal n) ≡ true
first_digit n small = elim (leb_tells 1 n) [
  | inl some ↦ grind (arith, nat_tests, first_decimal n (omega arith) small, decimal_nonempty n small)
  | inr none ↦ let zero : n ≡ 0 = omega arith in rw (zero, decimal_digit 0 (lit< tt)) refl
]

-- a number is read
pub u64_again : (n : ℕ) → n < 2 ^ 64 → u64_of (decimal n) ≡ Some n
unfolding u64_of
u64_again n small =
    let digits = digits_decimal own n small in
    let value = digits_value-decimal own n small in
    let plain = first_digit n small in
    rw plain (digits_again (decimal n) 0 digits (omega arith) ∙ ap Some value)

pub u32_found : (word : List ℕ) (n : ℕ) → u32_of word ≡ Some n → (word ≡ decimal n) × (n < 2 ^ 32)
unfolding u32_of
u32_found word n read =
    let step = bind_some (u64_of word) (λ k. only_if (nat_lt k (2 ^ 32)) k) n read in
    let passed = only_if_some (nat_lt step.0 (2 ^ 32)) step.0 n step.2 in
    let found = u64_found word step.0 step.1 in
    (found.0 ∙ ap decimal passed.1, let below = ltb-true step.0 (2 ^ 32) passed.0 in omega arith)

pub u32_again : (n : ℕ) → n < 2 ^ 32 → u32_of (decimal n) ≡ Some n
unfolding u32_of
u32_again n small =
    let read = u64_again n (omega arith) in
    let test = lt-ltb n (2 ^ 32) small in
    rw (read, test) refl

free_from_digits : (stop : ℕ) (bytes : List ℕ) → is_digit stop ≡ false → all_digits bytes ≡ true → IsFree stop bytes
free_from_digits stop [] other digits = tt
free_from_digits stop (b ∷ bytes) other digits =
    let parts = and_parts (is_digit b) (all_digits bytes) digits in
    (λ same. true≢false (sym parts.0 ∙ ap is_digit same ∙ other), free_from_digits stop bytes other parts.1)

-- no other byte is in a number
pub free_digits : (stop n : ℕ) → is_digit stop ≡ false → n < 2 ^ 64 → IsFree stop (decimal n)
free_digits stop n other small = free_from_digits stop (decimal n) other (digits_decimal own n small)

word_from_digits : (bytes : List ℕ) → all_digits bytes ≡ true → IsWord bytes
word_from_digits [] digits = tt
word_from_digits (b ∷ bytes) digits =
    let parts = and_parts (is_digit b) (all_digits bytes) digits in
    let low = and_parts (nat_le 48 b) (nat_lt b 58) parts.0 in
    let above : 48 ≤ b = leb-true 48 b low.0 in
    (omega arith, word_from_digits bytes parts.1)

-- a number is a word
pub word_decimal : (n : ℕ) → n < 2 ^ 64 → IsWord (decimal n)
word_decimal n small = word_from_digits (decimal n) (digits_decimal own n small)

-- what digits make is spelled so
pub plain_spelled : (word : List ℕ) (r : Option ℕ) → is_plain word ≡ true → r ≡ digits_after 0 word → IfSome r (λ n. word ≡ decimal n)
unfolding u64_of
plain_spelled word None plain read = tt
plain_spelled word (Some n) plain read =
    let whole : u64_of word ≡ Some n = rw plain (sym read) in
    (u64_found word n whole).0
