-- Words that are repeated.
use Rattle.std.proofs.Common.{◌≡◌, ℕ, Bool, true, false, ◌==◌, ◌&&◌, ◌+◌, ◌-◌, ◌*◌, ◌<◌, ◌≤◌, List, [], ◌∷◌, ◌++◌, length, take, drop, get_or, zero, suc, refl}
use Rattle.std.proofs.Common.{ap, sym, ◌∙◌, arith}
use Rattle.std.proofs.lemmas.Bool.{eqb-true}
use Rattle.std.proofs.lemmas.List.{take-take, take-append-drop, drop-drop, drop_more, length-take-le, length-drop, get_or-drop, take_more_same}
use Rattle.std.proofs.Math.Seq.{take-add}
use Rattle.nq_xdr.specs.Words.{repeats}
use Rattle.nq_link.specs.Runs.{IsRepeated}

-- bytes behind a word that are the same as those four places before them
same_words : (n a b c d : ℕ) (rest : List ℕ) → length rest ≡ 4 * n → take (4 * n) (a ∷ b ∷ c ∷ d ∷ rest) ≡ rest → rest ≡ repeats n (a ∷ b ∷ c ∷ d ∷ [])
same_words zero a b c d [] long same = refl
same_words zero a b c d (p ∷ rest) long same = absurd (omega (arith, long))
same_words (suc n) a b c d [] long same = absurd (omega (arith, long))
same_words (suc n) a b c d (p ∷ []) long same = absurd (omega (arith, long))
same_words (suc n) a b c d (p ∷ q ∷ []) long same = absurd (omega (arith, long))
same_words (suc n) a b c d (p ∷ q ∷ r ∷ []) long same = absurd (omega (arith, long))
same_words (suc n) a b c d (p ∷ q ∷ r ∷ s ∷ rest) long same =
    let four : suc (suc (suc (suc (4 * n)))) ≡ 4 * suc n = omega arith in
    let shifted : a ∷ b ∷ c ∷ d ∷ take (4 * n) (p ∷ q ∷ r ∷ s ∷ rest) ≡ p ∷ q ∷ r ∷ s ∷ rest =
    ap (λ k. take k (a ∷ b ∷ c ∷ d ∷ p ∷ q ∷ r ∷ s ∷ rest)) four ∙ same in
    let behind : take (4 * n) (p ∷ q ∷ r ∷ s ∷ rest) ≡ rest = cc in
    let ap-p : a ≡ p = cc in
    let ap-q : b ≡ q = cc in
    let ap-r : c ≡ r = cc in
    let ap-s : d ≡ s = cc in
    let later : rest ≡ repeats n (p ∷ q ∷ r ∷ s ∷ []) = same_words n p q r s rest (omega (arith, long)) behind in
    rw (ap-p, ap-q, ap-r, ap-s) (ap (λ words. p ∷ q ∷ r ∷ s ∷ words) later)

word_at : (bytes : List ℕ) (at : ℕ) → at + 4 ≤ length bytes
    → drop at bytes ≡ get_or bytes at 0 ∷ get_or bytes (at + 1) 0 ∷ get_or bytes (at + 2) 0 ∷ get_or bytes (at + 3) 0 ∷ drop (at + 4) bytes
word_at bytes at room =
    let one = drop_more bytes at 0 (omega arith) in
    let two = drop_more bytes (at + 1) 0 (omega arith) in
    let three = drop_more bytes (at + 2) 0 (omega arith) in
    let four = drop_more bytes (at + 3) 0 (omega arith) in
    let e2 : at + 1 + 1 ≡ at + 2 = omega arith in
    let e3 : at + 2 + 1 ≡ at + 3 = omega arith in
    let e4 : at + 3 + 1 ≡ at + 4 = omega arith in
    let two' = rw e2 at two in
    let three' = rw e3 at three in
    let four' = rw e4 at four in
    one ∙ ap (λ xs. get_or bytes at 0 ∷ xs) (two' ∙ ap (λ xs. get_or bytes (at + 1) 0 ∷ xs) (three' ∙ ap (λ xs. get_or bytes (at + 2) 0 ∷ xs) four'))

run_of : (n a b c d : ℕ) (rest : List ℕ) → 4 * n ≤ length rest → take (4 * n) (a ∷ b ∷ c ∷ d ∷ rest) ≡ take (4 * n) rest
    → take (4 * suc n) (a ∷ b ∷ c ∷ d ∷ rest) ≡ repeats (suc n) (a ∷ b ∷ c ∷ d ∷ [])
run_of n a b c d rest room same =
    let four : 4 * suc n ≡ suc (suc (suc (suc (4 * n)))) = omega arith in
    let long : length (take (4 * n) rest) ≡ 4 * n = length-take-le (4 * n) rest room in
    let cut : take (4 * n) (a ∷ b ∷ c ∷ d ∷ take (4 * n) rest) ≡ take (4 * n) (a ∷ b ∷ c ∷ d ∷ rest) =
    take-take (4 * n) (suc (suc (suc (suc (4 * n))))) (a ∷ b ∷ c ∷ d ∷ rest) (omega arith) in
    ap (λ k. take k (a ∷ b ∷ c ∷ d ∷ rest)) four ∙ ap (λ words. a ∷ b ∷ c ∷ d ∷ words) (same_words n a b c d (take (4 * n) rest) long (cut ∙ same))

-- bytes of which some are the same as those four places further on are a word, repeated
pub run_found : (bytes : List ℕ) (at times : ℕ) → 1 ≤ times → at + 4 * times ≤ length bytes
    → take (4 * times - 4) (drop at bytes) ≡ take (4 * times - 4) (drop (at + 4) bytes)
    → bytes ≡ take at bytes ++ (repeats times (get_or bytes at 0 ∷ get_or bytes (at + 1) 0 ∷ get_or bytes (at + 2) 0 ∷ get_or bytes (at + 3) 0 ∷ [])
    ++ drop (at + 4 * times) bytes)
run_found bytes at zero some room same = absurd (omega (arith, some))
run_found bytes at (suc n) some room same =
    let less : 4 * suc n - 4 ≡ 4 * n = omega arith in
    let there = word_at bytes at (omega arith) in
    let left = length-drop (at + 4) bytes in
    let same' = rw (less, there) at same in
    let words = run_of n (get_or bytes at 0) (get_or bytes (at + 1) 0) (get_or bytes (at + 2) 0) (get_or bytes (at + 3) 0) (drop (at + 4) bytes)
    (omega (arith, left, room)) same' in
    let words' = ap (take (4 * suc n)) there ∙ words in
    sym (take-append-drop at bytes)
    ∙ ap (λ xs. take at bytes ++ xs) (sym (take-append-drop (4 * suc n) (drop at bytes)) ∙ ap (λ xs. xs ++ drop (4 * suc n) (drop at bytes)) words'
    ∙ ap (λ xs. repeats (suc n) (get_or bytes at 0 ∷ get_or bytes (at + 1) 0 ∷ get_or bytes (at + 2) 0 ∷ get_or bytes (at + 3) 0 ∷ []) ++ xs)
    (drop-drop (4 * suc n) at bytes))

-- ---- the same as four places further on

-- bytes that are repeated, and behind them further ones
pub repeated-more : (bytes : List ℕ) (place m n : ℕ) → IsRepeated bytes place m → IsRepeated bytes (place + m) n → IsRepeated bytes place (m + n)
repeated-more bytes place m n first rest =
    let same : place + m + 4 ≡ place + 4 + m = omega arith in
    take-add m n (drop place bytes)
    ∙ ap (λ xs. take m (drop place bytes) ++ take n xs) (drop-drop m place bytes)
    ∙ ap (λ xs. take m (drop place bytes) ++ xs) (rest ∙ ap (λ k. take n (drop k bytes)) same)
    ∙ ap (λ xs. xs ++ take n (drop (place + 4 + m) bytes)) first
    ∙ ap (λ xs. take m (drop (place + 4) bytes) ++ take n xs) (sym (drop-drop m (place + 4) bytes))
    ∙ sym (take-add m n (drop (place + 4) bytes))

-- the same, where the places and the counts are told
pub repeated-on : (bytes : List ℕ) (place middle m n all : ℕ) → place + m ≡ middle → m + n ≡ all
    → IsRepeated bytes place m → IsRepeated bytes middle n → IsRepeated bytes place all
repeated-on bytes place middle m n all there sum first rest =
    rw (sym sum) (repeated-more bytes place m n first (rw there rest))

-- fewer of them
pub repeated-fewer : (bytes : List ℕ) (place m n : ℕ) → n ≤ m → IsRepeated bytes place m → IsRepeated bytes place n
repeated-fewer bytes place m n fewer all =
    sym (take-take n m (drop place bytes) fewer) ∙ ap (take n) all ∙ take-take n m (drop (place + 4) bytes) fewer

-- one byte more that stands four places behind too
pub repeated-step : (bytes : List ℕ) (place at : ℕ) (same : Bool) → place ≤ at → at + 4 < length bytes
    → (same ≡ true → IsRepeated bytes place (at - place))
    → (same && (get_or bytes at 0 == get_or bytes (at + 4) 0)) ≡ true → IsRepeated bytes place (at + 1 - place)
repeated-step bytes place at false behind within before is = absurd (cc)
repeated-step bytes place at true behind within before is =
    let here : place + (at - place) ≡ at = omega (arith, behind) in
    let there : place + 4 + (at - place) ≡ at + 4 = omega (arith, behind) in
    let next : at - place + 1 ≡ at + 1 - place = omega (arith, behind) in
    let byte : get_or bytes at 0 ≡ get_or bytes (at + 4) 0 = eqb-true (get_or bytes at 0) (get_or bytes (at + 4) 0) is in
    let front : get_or (drop place bytes) (at - place) 0 ≡ get_or bytes at 0 =
    get_or-drop place bytes (at - place) 0 ∙ ap (λ k. get_or bytes k 0) here in
    let back : get_or (drop (place + 4) bytes) (at - place) 0 ≡ get_or bytes (at + 4) 0 =
    get_or-drop (place + 4) bytes (at - place) 0 ∙ ap (λ k. get_or bytes k 0) there in
    let more =
    take_more_same (drop place bytes) (drop (place + 4) bytes) (at - place) 0 (omega (arith, behind, within, length-drop place bytes))
    (omega (arith, behind, within, length-drop (place + 4) bytes)) (before refl) (front ∙ byte ∙ sym back)
    in
    rw (sym next) more
