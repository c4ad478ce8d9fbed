-- Words that are written many times.
use Rattle.std.proofs.Common.{◌≡◌, ℕ, ◌+◌, ◌-◌, ◌*◌, ◌/◌, ◌%◌, ◌≤◌, List, [], ◌∷◌, ◌++◌, length, take, drop, get_or, replicate, slice_set, zero, suc}
use Rattle.std.proofs.Common.{refl, ap, sym, ◌∙◌, arith}
use Rattle.std.proofs.lemmas.List.{take_all, take_at, append_assoc, length-append, length-take-le, append-nil}
use Rattle.std.specs.List.{copy_within}
use Rattle.nq_xdr.specs.Item.{word, residual, padding, opaque}
use Rattle.nq_xdr.specs.Words.{repeats, many}
use Rattle.nq_xdr.proofs.Numbers.{length-word}

pub repeats-length : (times : ℕ) (word : List ℕ) → length word ≡ 4 → length (repeats times word) ≡ 4 * times
repeats-length zero word four = refl
repeats-length (suc times) word four =
    let shorter = repeats-length times word four in
    let both = length-append word (repeats times word) in
    omega (arith, shorter, both, four)

pub repeats-add : (m n : ℕ) (word : List ℕ) → repeats (m + n) word ≡ repeats m word ++ repeats n word
repeats-add zero n word = let same : 0 + n ≡ n = omega arith in ap (λ k. repeats k word) same
repeats-add (suc m) n word =
    let same : suc m + n ≡ suc (m + n) = omega arith in
    ap (λ k. repeats k word) same ∙ ap (λ rest. word ++ rest) (repeats-add m n word) ∙ sym (append_assoc word (repeats m word) (repeats n word))

-- the first of them
repeats-take : (m n : ℕ) (word : List ℕ) → length word ≡ 4 → take (4 * m) (repeats (m + n) word) ≡ repeats m word
repeats-take m n word four =
    ap (take (4 * m)) (repeats-add m n word) ∙ take_at (repeats m word) (repeats n word) (4 * m) (repeats-length m word four)

pub doubled : (bytes new : List ℕ) (n : ℕ) (word : List ℕ) → new ≡ copy_within bytes 0 (4 * n) (4 * n) → take (4 * n) bytes ≡ repeats n word
    → 4 * (n + n) ≤ length bytes → take (4 * (n + n)) new ≡ repeats (n + n) word
doubled bytes new n word is before room =
    let none : 4 * n - 0 ≡ 4 * n = omega arith in
    let same : new ≡ repeats (n + n) word ++ drop (4 * n + 4 * n) bytes = is ∙ rw (none, before, repeats-add n n word) refl in
    let size : length (take (4 * n) bytes) ≡ 4 * n = length-take-le (4 * n) bytes (omega arith) in
    let one : length (repeats n word) ≡ 4 * n = rw before at size in
    let long : length (repeats (n + n) word) ≡ 4 * (n + n) =
    ap length (repeats-add n n word) ∙ length-append (repeats n word) (repeats n word) ∙ omega (arith, one) in
    ap (take (4 * (n + n))) same ∙ take_at (repeats (n + n) word) (drop (4 * n + 4 * n) bytes) (4 * (n + n)) long

pub many-all : (bytes word : List ℕ) → length bytes ≡ 256 → take 256 bytes ≡ repeats 64 word → bytes ≡ many word
unfolding many
many-all bytes word long all = sym (take_all 256 bytes (omega arith)) ∙ all

first_in : (n a b c d : ℕ) → take 4 (slice_set (slice_set (slice_set (slice_set (replicate (suc (suc (suc (suc n)))) 0) 0 a) 1 b) 2 c) 3 d) ≡ a ∷ b
    ∷ c ∷ d ∷ []
first_in n a b c d = refl

four_bytes : (word : List ℕ) → length word ≡ 4 → get_or word 0 0 ∷ get_or word 1 0 ∷ get_or word 2 0 ∷ get_or word 3 0 ∷ [] ≡ word
four_bytes [] four = absurd (omega (arith, four))
four_bytes (a ∷ []) four = absurd (omega (arith, four))
four_bytes (a ∷ b ∷ []) four = absurd (omega (arith, four))
four_bytes (a ∷ b ∷ c ∷ []) four = absurd (omega (arith, four))
four_bytes (a ∷ b ∷ c ∷ d ∷ []) four = refl
four_bytes (a ∷ b ∷ c ∷ d ∷ e ∷ rest) four = absurd (omega (arith, four))

pub first_word : (word : List ℕ) → length word ≡ 4
    → take 4 (slice_set (slice_set (slice_set (slice_set (replicate 256 0) 0 (get_or word 0 0)) 1 (get_or word 1 0)) 2 (get_or word 2 0)) 3
    (get_or word 3 0)) ≡ repeats 1 word
first_word word four = first_in 252 _ _ _ _ ∙ four_bytes word four ∙ sym (append-nil word)

pub more-words : (base : List ℕ) (done : ℕ) (word : List ℕ) → (base ++ repeats (64 * done) word) ++ many word ≡ base ++ repeats (64 * (done + 1)) word
unfolding many
more-words base done word =
    let next : 64 * (done + 1) ≡ 64 * done + 64 = omega arith in
    append_assoc base (repeats (64 * done) word) (repeats 64 word)
    ∙ ap (λ words. base ++ words) (sym (ap (λ k. repeats k word) next ∙ repeats-add (64 * done) 64 word))

pub all-words : (base : List ℕ) (times : ℕ) (word : List ℕ) → length word ≡ 4
    → (base ++ repeats (64 * (times / 64)) word) ++ take (4 * (times % 64)) (many word) ≡ base ++ repeats times word
unfolding many
all-words base times word four =
    let some : 64 ≡ times % 64 + (64 - times % 64) = omega arith in
    let first : take (4 * (times % 64)) (repeats 64 word) ≡ repeats (times % 64) word =
    ap (λ k. take (4 * (times % 64)) (repeats k word)) some ∙ repeats-take (times % 64) (64 - times % 64) word four in
    let split : times ≡ 64 * (times / 64) + times % 64 = omega arith in
    append_assoc base (repeats (64 * (times / 64)) word) (take (4 * (times % 64)) (repeats 64 word))
    ∙ ap (λ words. base ++ words) (ap (λ rest. repeats (64 * (times / 64)) word ++ rest) first ∙ sym (ap (λ k. repeats k word) split
    ∙ repeats-add (64 * (times / 64)) (times % 64) word))

pub many-length : (word : List ℕ) → length word ≡ 4 → length (many word) ≡ 256
unfolding many
many-length word four = repeats-length 64 word four

-- words that are written behind their length are opaque data, with no residual bytes
pub words_written : (old counted all : List ℕ) (count value : ℕ) → counted ≡ old ++ word (4 * count) → all ≡ counted ++ repeats count (word value)
    → all ≡ old ++ opaque (repeats count (word value))
unfolding opaque padding
words_written old counted all count value e1 e2 =
    let body = repeats count (word value) in
    let long : length body ≡ 4 * count = repeats-length count (word value) (length-word value) in
    let none : residual (length body) ≡ 0 = omega (arith, long) in
    e2 ∙ rw (e1, ← long, none) (simp (append_assoc, append-nil))
