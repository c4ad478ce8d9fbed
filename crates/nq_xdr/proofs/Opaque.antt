-- Booleans and opaque data: what is spelled so is read, and what is read is spelled so.
use Rattle.std.proofs.Common.{◌≡◌, ◌-◌, ℕ, zero, suc, ◌+◌, ◌^◌, ◌<◌, ◌≤◌, ltb, ◌==◌, cond, Bool, true, false, List, [], ◌∷◌, ◌++◌, length, get_or}
use Rattle.std.proofs.Common.{take, drop, replicate, Result, Ok, Err, refl, sym, ap, subst, ◌∙◌, append_assoc, arith, inl, inr}
use Rattle.std.specs.List.{list_all}
use Rattle.std.proofs.lemmas.Bool.{cases_lt, lt-ltb, le-ltb, ne_eqb, and_left, both_ways, cond_both}
use Rattle.std.proofs.lemmas.List.{take_at, drop_at, take-append-drop, length-append, length-take-le, length-drop, length-replicate, take-replicate}
use Rattle.std.proofs.lemmas.List.{get_or-take, get_or-drop}
use Rattle.nq_xdr.specs.declared.fault.XdrFault.{XdrFault}
use Rattle.nq_xdr.specs.declared.fault.XdrFault.TheVariants as fault
use Rattle.nq_xdr.specs.Item.{word, truth, boolean, residual, padding, opaque, opaque_len}
use Rattle.nq_xdr.specs.Reading.{word_at, boolean_at, body_at, opaque_at}
use Rattle.nq_xdr.specs.Fault.{IsBooleanFault, IsOpaqueFault}
use Rattle.nq_xdr.proofs.Bytes.{IsBytes}
use Rattle.nq_xdr.proofs.Steps.{Says, apart}
use Rattle.nq_xdr.proofs.Numbers.{bytes_at-short, bytes_at-long, length-word, word_at-short, word_again, word_there}

-- ---- booleans

pub length-boolean : (b : Bool) → length (boolean b) ≡ 4
unfolding boolean
length-boolean b = length-word (truth b)

pub boolean_at-short : (bytes : List ℕ) → length bytes < 4 → boolean_at bytes ≡ Err fault.Short
unfolding boolean_at
boolean_at-short bytes lt = rw (word_at-short bytes lt) refl

pub boolean_at-above : (n : ℕ) (rest : List ℕ) → n < 2 ^ 32 → 1 < n → boolean_at (word n ++ rest) ≡ Err fault.Bool
unfolding boolean_at
boolean_at-above n rest fits above = rw (word_again n rest fits, lt-ltb 1 n above) refl

pub boolean_again : (b : Bool) (rest : List ℕ) → boolean_at (boolean b ++ rest) ≡ Ok (b, rest)
unfolding boolean_at boolean
boolean_again true rest = rw (word_again 1 rest (omega arith)) refl
boolean_again false rest = rw (word_again 0 rest (omega arith)) refl

-- a number that is not above 1 is a boolean's
truth_there : (n : ℕ) → n ≤ 1 → (b : Bool) × (n ≡ truth b)
truth_there zero le = (false, refl)
truth_there (suc zero) le = (true, refl)
truth_there (suc (suc n)) le = absurd (omega arith)

abbrev BooleanSays : List ℕ → Result (Bool × List ℕ) XdrFault → Type 0
BooleanSays bytes read = Says boolean (λ _. Unit {0}) (IsBooleanFault bytes) bytes read

pub boolean_says : (bytes : List ℕ) → IsBytes bytes → Says boolean (λ _. Unit {0}) (IsBooleanFault bytes) bytes (boolean_at bytes)
unfolding boolean
boolean_says bytes fits =
    let P : Result (Bool × List ℕ) XdrFault → Type 0 = BooleanSays bytes in
    elim (cases_lt (length bytes) 4) [
      | inl lt ↦ subst P (sym (boolean_at-short bytes lt)) lt
      | inr le ↦
          let w = word_there bytes fits le in
          elim (cases_lt 1 w.0) [
            | inl above ↦ subst P (sym (ap boolean_at w.1.1 ∙ boolean_at-above w.0 (drop 4 bytes) w.1.0 above)) (w.0, (drop 4 bytes, (w.1.0, w.1.1, above)))
            | inr below ↦
                let b = truth_there w.0 below in
                let whole : bytes ≡ boolean b.0 ++ drop 4 bytes = w.1.1 ∙ ap (λ (n : ℕ). word n ++ drop 4 bytes) b.1 in
                subst P (sym (ap boolean_at whole ∙ boolean_again b.0 (drop 4 bytes))) (tt, whole)
          ]
    ]

pub boolean_only : (bytes : List ℕ) (read : Result (Bool × List ℕ) XdrFault) → Says boolean (λ _. Unit {0}) (IsBooleanFault bytes) bytes read
    → boolean_at bytes ≡ read
boolean_only bytes (Ok x) says = ap boolean_at says.1 ∙ boolean_again x.0 x.1
boolean_only bytes (Err fault.Short) says = boolean_at-short bytes says
boolean_only bytes (Err fault.Bool) says = ap boolean_at says.1.1.1 ∙ boolean_at-above says.0 says.1.0 says.1.1.0 says.1.1.2
boolean_only bytes (Err fault.TooLong) says = absurd says
boolean_only bytes (Err fault.Pad) says = absurd says
boolean_only bytes (Err fault.Trailing) says = absurd says

-- the boolean of a number that is not above 1
pub boolean_from : (n : ℕ) (bytes rest : List ℕ) → n ≤ 1 → bytes ≡ word n ++ rest → bytes ≡ boolean (n == 1) ++ rest
unfolding boolean
boolean_from zero bytes rest le e = e
boolean_from (suc zero) bytes rest le e = e
boolean_from (suc (suc n)) bytes rest le e = absurd (omega arith)

-- no boolean begins another
pub boolean_apart : (a b : Bool) (r s : List ℕ) → boolean a ++ r ≡ boolean b ++ s → (a ≡ b) × (r ≡ s)
boolean_apart a b r s e = apart boolean_at (a, r) (b, s) (boolean a ++ r) (boolean b ++ s) e (boolean_again a r) (boolean_again b s)

-- ---- opaque data

pub length-padding : (n : ℕ) → length (padding n) ≡ residual n
unfolding padding
length-padding n = length-replicate (residual n) 0

pub length-opaque : (body : List ℕ) → length (opaque body) ≡ opaque_len (length body)
unfolding opaque
length-opaque body =
    omega (
      arith,
      length-append (word (length body)) (body ++ padding (length body)),
      length-append body (padding (length body)),
      length-word (length body),
      length-padding (length body),
    )

above_zero : (b : ℕ) (bytes : List ℕ) → list_all (λ x. x == 0) (suc b ∷ bytes) ≡ false
above_zero b bytes = and_left (suc b == 0) _ (ne_eqb (suc b) 0 (λ e. omega arith))

-- bytes that are all zero
zeros : (bytes : List ℕ) → list_all (λ b. b == 0) bytes ≡ true → bytes ≡ replicate (length bytes) 0
zeros [] e = refl
zeros (zero ∷ bytes) e = ap (λ (x : List ℕ). 0 ∷ x) (zeros bytes e)
zeros (suc b ∷ bytes) e = absurd (both_ways _ (above_zero b bytes) e)

all_zero : (n : ℕ) → list_all (λ b. b == 0) (replicate n 0) ≡ true
all_zero zero = refl
all_zero (suc n) = all_zero n

-- a byte that is not zero
not_zero : (bytes : List ℕ) → list_all (λ b. b == 0) bytes ≡ false → (k : ℕ) × ((k < length bytes) × (0 < get_or bytes k 0))
not_zero [] e = absurd cc
not_zero (zero ∷ bytes) e = let w = not_zero bytes e in (suc w.0, (omega (arith, w.1.0), w.1.1))
not_zero (suc b ∷ bytes) e = (0, (omega arith, omega arith))

not_all_zero : (bytes : List ℕ) (k : ℕ) → k < length bytes → 0 < get_or bytes k 0 → list_all (λ b. b == 0) bytes ≡ false
not_all_zero [] k lt above = absurd (omega arith)
not_all_zero (zero ∷ bytes) zero lt above = absurd (omega arith)
not_all_zero (zero ∷ bytes) (suc k) lt above = not_all_zero bytes k (omega arith) above
not_all_zero (suc b ∷ bytes) k lt above = above_zero b bytes

-- the body and its residual bytes are not all there
body_at-short : (n : ℕ) (bytes : List ℕ) → length bytes < n + residual n → body_at n bytes ≡ Err fault.Short
unfolding body_at
body_at-short n bytes lt =
    elim (cases_lt (length bytes) n) [
      | inl less ↦ rw (bytes_at-short n bytes less) refl
      | inr le ↦ rw (bytes_at-long n bytes le, bytes_at-short (residual n) (drop n bytes) (omega (arith, length-drop n bytes))) refl
    ]

-- what reading the body comes to where all is there
body_at-long : (n : ℕ) (bytes : List ℕ) → n + residual n ≤ length bytes
    → body_at n bytes ≡ cond (list_all (λ b. b == 0) (take (residual n) (drop n bytes))) (Ok (take n bytes, drop (residual n) (drop n bytes))) (Err fault.Pad)
unfolding body_at
body_at-long n bytes le = rw (bytes_at-long n bytes (omega arith), bytes_at-long (residual n) (drop n bytes) (omega (arith, length-drop n bytes))) refl

body_at-again : (body rest : List ℕ) → body_at (length body) ((body ++ padding (length body)) ++ rest) ≡ Ok (body, rest)
unfolding padding
body_at-again body rest =
    let n = length body in
    let pad = replicate (residual n) 0 in
    let pad-len : length pad ≡ residual n = length-replicate (residual n) 0 in
    let parts : (body ++ pad) ++ rest ≡ body ++ (pad ++ rest) = append_assoc body pad rest in
    let enough : n + residual n ≤ length (body ++ (pad ++ rest)) = omega (arith, length-append body (pad ++ rest), length-append pad rest) in
    let front : take n (body ++ (pad ++ rest)) ≡ body = take_at body (pad ++ rest) n refl in
    let behind : drop n (body ++ (pad ++ rest)) ≡ pad ++ rest = drop_at body (pad ++ rest) n refl in
    ap (body_at n) parts ∙ body_at-long n (body ++ (pad ++ rest)) enough
    ∙ rw (front, behind, take_at pad rest (residual n) pad-len, drop_at pad rest (residual n) pad-len, all_zero (residual n)) refl

pub opaque_at-short : (max : ℕ) (bytes : List ℕ) → length bytes < 4 → opaque_at max bytes ≡ Err fault.Short
unfolding opaque_at
opaque_at-short max bytes lt = rw (word_at-short bytes lt) refl

-- what reading opaque data comes to behind its length
pub opaque_at-word : (max n : ℕ) (rest : List ℕ) → n < 2 ^ 32 → opaque_at max (word n ++ rest) ≡ cond (ltb max n) (Err fault.TooLong) (body_at n rest)
unfolding opaque_at
opaque_at-word max n rest fits = rw (word_again n rest fits) refl

-- the same, of a length that was read
pub opaque_at-body : (max n : ℕ) (bytes rest : List ℕ) → word_at bytes ≡ Ok (n, rest) → n ≤ max → opaque_at max bytes ≡ body_at n rest
unfolding opaque_at
opaque_at-body max n bytes rest e le = rw (e, le-ltb max n le) refl

pub opaque_at-too_long : (max n : ℕ) (rest : List ℕ) → n < 2 ^ 32 → max < n → opaque_at max (word n ++ rest) ≡ Err fault.TooLong
opaque_at-too_long max n rest fits above = opaque_at-word max n rest fits ∙ rw (lt-ltb max n above) refl

pub opaque_at-ends : (max n : ℕ) (rest : List ℕ) → n < 2 ^ 32 → n ≤ max → length rest < n + residual n → opaque_at max (word n ++ rest) ≡ Err fault.Short
opaque_at-ends max n rest fits le lt = opaque_at-word max n rest fits ∙ rw (le-ltb max n le) (body_at-short n rest lt)

pub opaque_again : (max : ℕ) (body rest : List ℕ) → length body < 2 ^ 32 → length body ≤ max → opaque_at max (opaque body ++ rest) ≡ Ok (body, rest)
unfolding opaque
opaque_again max body rest fits le =
    ap (opaque_at max) (append_assoc (word (length body)) (body ++ padding (length body)) rest)
    ∙ opaque_at-word max (length body) ((body ++ padding (length body)) ++ rest) fits
    ∙ rw (le-ltb max (length body) le) (body_at-again body rest)

-- the byte behind the body that is not zero
bad_pad : (n : ℕ) (rest : List ℕ) → n + residual n ≤ length rest → list_all (λ b. b == 0) (take (residual n) (drop n rest)) ≡ false
    → (k : ℕ) × ((n ≤ k) × (k < n + residual n) × (0 < get_or rest k 0))
bad_pad n rest le e =
    let w = not_zero (take (residual n) (drop n rest)) e in
    let len : length (take (residual n) (drop n rest)) ≡ residual n = length-take-le (residual n) (drop n rest) (omega (arith, length-drop n rest)) in
    let lt : w.0 < residual n = omega (arith, w.1.0) in
    let at : get_or (take (residual n) (drop n rest)) w.0 0 ≡ get_or rest (n + w.0) 0 = get_or-take (residual n) (drop n rest) w.0 0 lt
    ∙ get_or-drop n rest w.0 0 in
    (n + w.0, (omega arith, omega arith, omega (arith, w.1.1)))

bad_pad-seen : (n : ℕ) (rest : List ℕ) (k : ℕ) → n + residual n ≤ length rest → n ≤ k → k < n + residual n → 0 < get_or rest k 0
    → list_all (λ b. b == 0) (take (residual n) (drop n rest)) ≡ false
bad_pad-seen n rest k le from to above =
    let len : length (take (residual n) (drop n rest)) ≡ residual n = length-take-le (residual n) (drop n rest) (omega (arith, length-drop n rest)) in
    let lt : k - n < residual n = omega arith in
    let place : n + (k - n) ≡ k = omega arith in
    let at : get_or (take (residual n) (drop n rest)) (k - n) 0 ≡ get_or rest k 0 =
    get_or-take (residual n) (drop n rest) (k - n) 0 lt ∙ get_or-drop n rest (k - n) 0 ∙ ap (λ (i : ℕ). get_or rest i 0) place in
    not_all_zero (take (residual n) (drop n rest)) (k - n) (omega arith) (omega arith)

pub opaque_at-bad_pad : (max n : ℕ) (rest : List ℕ) (k : ℕ) → n < 2 ^ 32 → n ≤ max → n + residual n ≤ length rest → n ≤ k → k < n + residual n
    → 0 < get_or rest k 0
    → opaque_at max (word n ++ rest) ≡ Err fault.Pad
opaque_at-bad_pad max n rest k fits le long from to above =
    opaque_at-word max n rest fits ∙ rw (le-ltb max n le) (body_at-long n rest long ∙ rw (bad_pad-seen n rest k long from to above) refl)

-- residual bytes that are all zero are the padding
opaque_whole : (n : ℕ) (rest : List ℕ) → n + residual n ≤ length rest → list_all (λ b. b == 0) (take (residual n) (drop n rest)) ≡ true
    → word n ++ rest ≡ opaque (take n rest) ++ drop (residual n) (drop n rest)
unfolding opaque padding
opaque_whole n rest le e =
    let body = take n rest in
    let pad = take (residual n) (drop n rest) in
    let left = drop (residual n) (drop n rest) in
    let body-len : length body ≡ n = length-take-le n rest (omega arith) in
    let pad-len : length pad ≡ residual n = length-take-le (residual n) (drop n rest) (omega (arith, length-drop n rest)) in
    let is_pad : pad ≡ replicate (residual n) 0 = zeros pad e ∙ ap (λ (k : ℕ). replicate k 0) pad-len in
    let parts : rest ≡ (body ++ replicate (residual n) 0) ++ left =
    sym (take-append-drop n rest) ∙ ap (λ (x : List ℕ). body ++ x) (sym (take-append-drop (residual n) (drop n rest)) ∙ ap (λ (x : List ℕ). x ++ left) is_pad)
    ∙ sym (append_assoc body (replicate (residual n) 0) left) in
    let spelled : word n ++ rest ≡ (word n ++ (body ++ replicate (residual n) 0)) ++ left =
    ap (λ (x : List ℕ). word n ++ x) parts ∙ sym (append_assoc (word n) (body ++ replicate (residual n) 0) left) in
    spelled ∙ ap (λ (k : ℕ). (word k ++ (body ++ replicate (residual k) 0)) ++ left) (sym body-len)

abbrev OpaqueSays : ℕ → List ℕ → Result (List ℕ × List ℕ) XdrFault → Type 0
OpaqueSays max bytes read = Says opaque (λ body. length body ≤ max) (IsOpaqueFault max bytes) bytes read

-- what stands behind a length that is not above max
body_says : (max n : ℕ) (rest : List ℕ) → n < 2 ^ 32 → n ≤ max → OpaqueSays max (word n ++ rest) (opaque_at max (word n ++ rest))
body_says max n rest fits le =
    let P : Result (List ℕ × List ℕ) XdrFault → Type 0 = OpaqueSays max (word n ++ rest) in
    elim (cases_lt (length rest) (n + residual n)) [
      | inl lt ↦ subst P (sym (opaque_at-ends max n rest fits le lt)) (inr (n, (rest, (fits, refl, (le, lt)))))
      | inr long ↦
          let read : opaque_at max (word n ++ rest) ≡ cond (list_all (λ b. b == 0) (take (residual n) (drop n rest)))
          (Ok (take n rest, drop (residual n) (drop n rest))) (Err fault.Pad) =
          opaque_at-word max n rest fits ∙ rw (le-ltb max n le) (body_at-long n rest long) in
          subst P (sym read)
          (cond_both (list_all (λ b. b == 0) (take (residual n) (drop n rest))) (Ok (take n rest, drop (residual n) (drop n rest))) (Err fault.Pad) P
          (λ e. (omega (arith, length-take-le n rest (omega arith)), opaque_whole n rest long e))
          (λ e. (n, (rest, (fits, refl, (le, long, bad_pad n rest long e))))))
    ]

pub opaque_says : (max : ℕ) (bytes : List ℕ) → IsBytes bytes → Says opaque (λ body. length body ≤ max) (IsOpaqueFault max bytes) bytes (opaque_at max bytes)
opaque_says max bytes fits =
    let P : Result (List ℕ × List ℕ) XdrFault → Type 0 = OpaqueSays max bytes in
    elim (cases_lt (length bytes) 4) [
      | inl lt ↦ subst P (sym (opaque_at-short max bytes lt)) (inl lt)
      | inr le ↦
          let w = word_there bytes fits le in
          let Q : List ℕ → Type 0 = λ x. OpaqueSays max x (opaque_at max x) in
          elim (cases_lt max w.0) [
            | inl above ↦ subst P (sym (ap (opaque_at max) w.1.1 ∙ opaque_at-too_long max w.0 (drop 4 bytes) w.1.0 above))
                (w.0, (drop 4 bytes, (w.1.0, w.1.1, above)))
            | inr below ↦ subst Q (sym w.1.1) (body_says max w.0 (drop 4 bytes) w.1.0 below)
          ]
    ]

pub opaque_only : (max : ℕ) (bytes : List ℕ) (read : Result (List ℕ × List ℕ) XdrFault) → max < 2 ^ 32 → Says opaque (λ body. length body ≤ max)
    (IsOpaqueFault max bytes) bytes read → opaque_at max bytes ≡ read
opaque_only max bytes (Ok x) fits says = ap (opaque_at max) says.1 ∙ opaque_again max x.0 x.1 (omega (arith, says.0)) says.0
opaque_only max bytes (Err fault.Short) fits (inl lt) = opaque_at-short max bytes lt
opaque_only max bytes (Err fault.Short) fits (inr w) = ap (opaque_at max) w.1.1.1 ∙ opaque_at-ends max w.0 w.1.0 w.1.1.0 w.1.1.2.0 w.1.1.2.1
opaque_only max bytes (Err fault.Bool) fits says = absurd says
opaque_only max bytes (Err fault.TooLong) fits w = ap (opaque_at max) w.1.1.1 ∙ opaque_at-too_long max w.0 w.1.0 w.1.1.0 w.1.1.2
opaque_only max bytes (Err fault.Pad) fits w =
    let bad = w.1.1.2.2 in
    ap (opaque_at max) w.1.1.1 ∙ opaque_at-bad_pad max w.0 w.1.0 bad.0 w.1.1.0 w.1.1.2.0 w.1.1.2.1 bad.1.0 bad.1.1 bad.1.2
opaque_only max bytes (Err fault.Trailing) fits says = absurd says

-- no opaque data begins another
pub opaque_apart : (a b r s : List ℕ) → length a < 2 ^ 32 → length b < 2 ^ 32 → opaque a ++ r ≡ opaque b ++ s → (a ≡ b) × (r ≡ s)
opaque_apart a b r s a-fits b-fits e =
    apart (opaque_at (2 ^ 32)) (a, r) (b, s) (opaque a ++ r) (opaque b ++ s) e (opaque_again (2 ^ 32) a r a-fits (omega arith))
    (opaque_again (2 ^ 32) b s b-fits (omega arith))

-- a length, a body and residual zeros, written one behind the other, are opaque data
pub opaque_written : (old counted filled all body pad : List ℕ) → counted ≡ old ++ word (length body) → filled ≡ counted ++ body → all ≡ filled ++ pad
    → pad ≡ take (residual (length body)) (replicate 3 0)
    → all ≡ old ++ opaque body
unfolding opaque padding
opaque_written old counted filled all body pad e1 e2 e3 e4 =
    let zero_pad : pad ≡ replicate (residual (length body)) 0 = e4 ∙ take-replicate (residual (length body)) 3 0 (omega arith) in
    e3 ∙ rw (e2, e1, zero_pad) (simp append_assoc)
