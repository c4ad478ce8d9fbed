-- Numbers in decimal, up to a greatest one.
use Rattle.std.proofs.Common.{◌≡◌, ℕ, ◌<◌, ◌≤◌, ◌^◌, nat_le, List, Some, false, refl, ap, ◌∙◌, arith}
use Rattle.std.specs.Fmt.{decimal}
use Rattle.std.proofs.lemmas.Bool.{le-leb, leb-true}
use Rattle.nq_base.proofs.Options.{bind_some}
use Rattle.nq_script.specs.Text.{Lacks}
use Rattle.nq_script.specs.WordsReading.{is_digit, number_of, only_if, u64_of}
use Rattle.nq_script.proofs.Options.{only_if_some}
use Rattle.nq_script.proofs.Numerals.{u64_again, u64_found, free_digits}

-- what a number writes is read as that number
pub number-again : (most n : ℕ) → most < 2 ^ 64 → n ≤ most → number_of most (decimal n) ≡ Some n
unfolding number_of
number-again most n wide low = rw (u64_again n (omega arith), le-leb n most low) refl

-- what is read as a number is what that number writes
pub number-found : (most : ℕ) (word : List ℕ) (n : ℕ) → most < 2 ^ 64 → number_of most word ≡ Some n → (word ≡ decimal n) × (n ≤ most)
unfolding number_of
number-found most word n wide e =
    let value = bind_some (u64_of word) (λ v. only_if (nat_le v most) v) n e in
    let within = only_if_some (nat_le value.0 most) value.0 n value.2 in
    let same : value.0 ≡ n = within.1 in
    let low : value.0 ≤ most = leb-true value.0 most within.0 in
    ((u64_found word value.0 value.1).0 ∙ ap decimal same, omega (arith, same, low))

-- a number in decimal lacks every byte that is no digit
pub decimal-lacks : (at n : ℕ) → is_digit at ≡ false → n < 2 ^ 64 → Lacks at (decimal n)
decimal-lacks at n other short = free_digits at n other short
