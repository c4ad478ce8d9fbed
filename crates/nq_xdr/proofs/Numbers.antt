-- Words and hyper integers: what is spelled so is read, and what is read is spelled so.
use Rattle.std.proofs.Common.{◌≡◌, ℕ, ◌^◌, ◌<◌, ◌≤◌, List, ◌++◌, length, take, drop, Result, Ok, Err, refl, sym, ap, subst, ◌∙◌, arith, inl, inr}
use Rattle.std.specs.Int.{w32, w64, from_be_bytes, to_be_bytes}
use Rattle.std.proofs.lemmas.Bool.{cases_lt, lt-ltb, le-ltb}
use Rattle.std.proofs.lemmas.List.{take-append-drop, length-append, length-take-le}
use Rattle.std.proofs.lemmas.Nat.{be_bytes_4, be_bytes_8, from_be_bytes-to_be_bytes_4, from_be_bytes-to_be_bytes_8}
use Rattle.byteorder.specs.Endian.{big_number}
use Rattle.nq_xdr.specs.declared.fault.XdrFault.{XdrFault}
use Rattle.nq_xdr.specs.declared.fault.XdrFault.TheVariants as fault
use Rattle.nq_xdr.specs.Item.{word, hyper}
use Rattle.nq_xdr.specs.Reading.{bytes_at, word_at, hyper_at}
use Rattle.nq_xdr.specs.Fault.{IsShort}
use Rattle.nq_xdr.proofs.Bytes.{IsBytes, IsBytes-take}
use Rattle.nq_xdr.proofs.Steps.{Says, apart}

pub bytes_at-short : (n : ℕ) (bytes : List ℕ) → length bytes < n → bytes_at n bytes ≡ Err fault.Short
unfolding bytes_at
bytes_at-short n bytes lt = rw (lt-ltb _ _ lt) refl

pub bytes_at-long : (n : ℕ) (bytes : List ℕ) → n ≤ length bytes → bytes_at n bytes ≡ Ok (take n bytes, drop n bytes)
unfolding bytes_at
bytes_at-long n bytes le = rw (le-ltb _ _ le) refl

-- ---- words

pub length-word : (n : ℕ) → length (word n) ≡ 4
unfolding word
length-word n = refl

pub word_at-short : (bytes : List ℕ) → length bytes < 4 → word_at bytes ≡ Err fault.Short
unfolding word_at
word_at-short bytes lt = rw (bytes_at-short 4 bytes lt) refl

-- what is spelled so is read, whatever follows
pub word_again : (n : ℕ) (rest : List ℕ) → n < 2 ^ 32 → word_at (word n ++ rest) ≡ Ok (n, rest)
unfolding word_at word
word_again n rest lt =
    let front = bytes_at-long 4 (to_be_bytes w32 n ++ rest) (omega (arith, length-append (to_be_bytes w32 n) rest)) in
    rw (front, from_be_bytes-to_be_bytes_4 n lt) refl

-- where there are four bytes they are a word
pub word_there : (bytes : List ℕ) → IsBytes bytes → 4 ≤ length bytes → (n : ℕ) × ((n < 2 ^ 32) × (bytes ≡ word n ++ drop 4 bytes))
unfolding word
word_there bytes fits le =
    let n = from_be_bytes w32 (take 4 bytes) in
    let small = IsBytes-take 4 bytes fits in
    let front : to_be_bytes w32 n ≡ take 4 bytes = be_bytes_4 (take 4 bytes) n (length-take-le 4 bytes le) small refl in
    let whole : bytes ≡ to_be_bytes w32 n ++ drop 4 bytes = sym (take-append-drop 4 bytes) ∙ ap (λ (x : List ℕ). x ++ drop 4 bytes) (sym front) in
    (n, (omega (arith, small 0, small 1, small 2, small 3), whole))

-- what four bytes or fewer say
pub word_says : (bytes : List ℕ) → IsBytes bytes → Says word (λ n. n < 2 ^ 32) (IsShort 4 bytes) bytes (word_at bytes)
word_says bytes fits =
    let P : Result (ℕ × List ℕ) XdrFault → Type 0 = Says word (λ n. n < 2 ^ 32) (IsShort 4 bytes) bytes in
    elim (cases_lt (length bytes) 4) [
      | inl lt ↦ subst P (sym (word_at-short bytes lt)) lt
      | inr le ↦
          let w = word_there bytes fits le in
          subst P (sym (ap word_at w.1.1 ∙ word_again w.0 (drop 4 bytes) w.1.0)) (w.1.0, w.1.1)
    ]

-- what four bytes read as is spelled by them
pub word_read : (bytes front rest : List ℕ) (n : ℕ) → IsBytes bytes → bytes_at 4 bytes ≡ Ok (front, rest) → n ≡ big_number 4 front → bytes ≡ word n ++ rest
unfolding word_at
word_read bytes front rest n fits e number =
    let same : from_be_bytes w32 front ≡ n = omega arith in
    let read : word_at bytes ≡ Ok (n, rest) = rw (e, same) refl in
    let P : Result (ℕ × List ℕ) XdrFault → Type 0 = Says word (λ n. n < 2 ^ 32) (IsShort 4 bytes) bytes in
    (subst P read (word_says bytes fits)).1

-- and only that is read
pub word_only : (bytes : List ℕ) (read : Result (ℕ × List ℕ) XdrFault) → Says word (λ n. n < 2 ^ 32) (IsShort 4 bytes) bytes read → word_at bytes ≡ read
word_only bytes (Ok x) says = ap word_at says.1 ∙ word_again x.0 x.1 says.0
word_only bytes (Err fault.Short) says = word_at-short bytes says
word_only bytes (Err fault.Bool) says = absurd says
word_only bytes (Err fault.TooLong) says = absurd says
word_only bytes (Err fault.Pad) says = absurd says
word_only bytes (Err fault.Trailing) says = absurd says

-- no word begins another
pub word_apart : (a b : ℕ) (r s : List ℕ) → a < 2 ^ 32 → b < 2 ^ 32 → word a ++ r ≡ word b ++ s → (a ≡ b) × (r ≡ s)
word_apart a b r s a-fits b-fits e = apart word_at (a, r) (b, s) (word a ++ r) (word b ++ s) e (word_again a r a-fits) (word_again b s b-fits)

-- ---- hyper integers

pub length-hyper : (n : ℕ) → length (hyper n) ≡ 8
unfolding hyper
length-hyper n = refl

pub hyper_at-short : (bytes : List ℕ) → length bytes < 8 → hyper_at bytes ≡ Err fault.Short
unfolding hyper_at
hyper_at-short bytes lt = rw (bytes_at-short 8 bytes lt) refl

pub hyper_again : (n : ℕ) (rest : List ℕ) → n < 2 ^ 64 → hyper_at (hyper n ++ rest) ≡ Ok (n, rest)
unfolding hyper_at hyper
hyper_again n rest lt =
    let front = bytes_at-long 8 (to_be_bytes w64 n ++ rest) (omega (arith, length-append (to_be_bytes w64 n) rest)) in
    rw (front, from_be_bytes-to_be_bytes_8 n lt) refl

-- where there are eight bytes they are a hyper integer
pub hyper_there : (bytes : List ℕ) → IsBytes bytes → 8 ≤ length bytes → (n : ℕ) × ((n < 2 ^ 64) × (bytes ≡ hyper n ++ drop 8 bytes))
unfolding hyper
hyper_there bytes fits le =
    let n = from_be_bytes w64 (take 8 bytes) in
    let small = IsBytes-take 8 bytes fits in
    let front : to_be_bytes w64 n ≡ take 8 bytes = be_bytes_8 (take 8 bytes) n (length-take-le 8 bytes le) small refl in
    let whole : bytes ≡ to_be_bytes w64 n ++ drop 8 bytes = sym (take-append-drop 8 bytes) ∙ ap (λ (x : List ℕ). x ++ drop 8 bytes) (sym front) in
    (n, (omega (arith, small 0, small 1, small 2, small 3, small 4, small 5, small 6, small 7), whole))

pub hyper_says : (bytes : List ℕ) → IsBytes bytes → Says hyper (λ n. n < 2 ^ 64) (IsShort 8 bytes) bytes (hyper_at bytes)
hyper_says bytes fits =
    let P : Result (ℕ × List ℕ) XdrFault → Type 0 = Says hyper (λ n. n < 2 ^ 64) (IsShort 8 bytes) bytes in
    elim (cases_lt (length bytes) 8) [
      | inl lt ↦ subst P (sym (hyper_at-short bytes lt)) lt
      | inr le ↦
          let w = hyper_there bytes fits le in
          subst P (sym (ap hyper_at w.1.1 ∙ hyper_again w.0 (drop 8 bytes) w.1.0)) (w.1.0, w.1.1)
    ]

-- what eight bytes read as is spelled by them
pub hyper_read : (bytes front rest : List ℕ) (n : ℕ) → IsBytes bytes → bytes_at 8 bytes ≡ Ok (front, rest) → n ≡ big_number 8 front → bytes ≡ hyper n ++ rest
unfolding hyper_at
hyper_read bytes front rest n fits e number =
    let same : from_be_bytes w64 front ≡ n = omega arith in
    let read : hyper_at bytes ≡ Ok (n, rest) = rw (e, same) refl in
    let P : Result (ℕ × List ℕ) XdrFault → Type 0 = Says hyper (λ n. n < 2 ^ 64) (IsShort 8 bytes) bytes in
    (subst P read (hyper_says bytes fits)).1

pub hyper_only : (bytes : List ℕ) (read : Result (ℕ × List ℕ) XdrFault) → Says hyper (λ n. n < 2 ^ 64) (IsShort 8 bytes) bytes read → hyper_at bytes ≡ read
hyper_only bytes (Ok x) says = ap hyper_at says.1 ∙ hyper_again x.0 x.1 says.0
hyper_only bytes (Err fault.Short) says = hyper_at-short bytes says
hyper_only bytes (Err fault.Bool) says = absurd says
hyper_only bytes (Err fault.TooLong) says = absurd says
hyper_only bytes (Err fault.Pad) says = absurd says
hyper_only bytes (Err fault.Trailing) says = absurd says

-- no hyper integer begins another
pub hyper_apart : (a b : ℕ) (r s : List ℕ) → a < 2 ^ 64 → b < 2 ^ 64 → hyper a ++ r ≡ hyper b ++ s → (a ≡ b) × (r ≡ s)
hyper_apart a b r s a-fits b-fits e = apart hyper_at (a, r) (b, s) (hyper a ++ r) (hyper b ++ s) e (hyper_again a r a-fits) (hyper_again b s b-fits)
