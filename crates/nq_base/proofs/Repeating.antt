-- Blocks that repeat a word: what follows the first word is the block without its last one.
use Rattle.std.proofs.Common.{◌≡◌, ◌≤◌, ℕ, Bool, true, false, ◌==◌, ◌&&◌, subst, ◌+◌, ◌*◌, ◌<◌, List, [], ◌∷◌, ◌++◌, length, take, drop, zero, suc}
use Rattle.std.proofs.Common.{refl, sym, ap, ◌∙◌, get_or, ◌/◌, ◌%◌, arith}
use Rattle.std.proofs.lemmas.List.{take_at, drop_at, take_all, take-take, take-append-drop, drop-take, length-drop, get_or-drop, get_or-take, take_more_same}
use Rattle.std.proofs.lemmas.Bool.Decides.{nat_tests}
use Rattle.nq_base.specs.Block.{filled, repeated, word, value_of}
use Rattle.nq_base.proofs.Filling.{repeated-length}

-- words that are repeated, and one more
repeated-more : (n v : ℕ) → repeated (n + 1) v ≡ repeated n v ++ word v
repeated-more zero v = refl
repeated-more (suc n) v =
    let same : suc n + 1 ≡ suc (n + 1) = omega arith in
    ap (λ k. repeated k v) same ∙ ap (λ rest. word v ++ rest) (repeated-more n v)

-- bytes that begin with a word, and go on as they begin, repeat the word
repeats-word : (n v : ℕ) (bytes : List ℕ) → length bytes ≡ 4 * (n + 1) → take 4 bytes ≡ word v
    → take (4 * n) bytes ≡ drop 4 bytes → bytes ≡ repeated (n + 1) v
repeats-word zero v bytes long first same = sym (take_all 4 bytes (omega (arith, long))) ∙ first
repeats-word (suc n) v bytes long first same =
    let rest = drop 4 bytes in
    let whole = take-append-drop 4 bytes in
    let shorter : length rest ≡ 4 * (n + 1) = omega (arith, long, length-drop 4 bytes) in
    let begins : take 4 rest ≡ word v = ap (take 4) (sym same) ∙ take-take 4 (4 * suc n) bytes (omega arith) ∙ first in
    let fewer : 4 * suc n ≡ 4 + 4 * n = omega arith in
    let goes : take (4 * n) rest ≡ drop 4 rest =
    sym (drop-take 4 (4 * n) bytes) ∙ ap (λ k. drop 4 (take k bytes)) (sym fewer) ∙ ap (drop 4) same in
    let count : suc n + 1 ≡ suc (n + 1) = omega arith in
    sym whole ∙ ap (λ head. head ++ rest) first ∙ ap (λ tail. word v ++ tail) (repeats-word n v rest shorter begins goes) ∙ ap (λ k. repeated k v) (sym count)

-- the four bytes of the sum of four bytes, each times its worth
word-digits : (a b c d : ℕ) → a < 256 → b < 256 → c < 256 → d < 256 → word (a * 16777216 + b * 65536 + c * 256 + d) ≡ a ∷ b ∷ c ∷ d ∷ []
word-digits a b c d p q r s =
    let v = a * 16777216 + b * 65536 + c * 256 + d in
    let first : v / 16777216 ≡ a = omega (arith, p, q, r, s) in
    let second : v / 65536 % 256 ≡ b = omega (arith, p, q, r, s) in
    let third : v / 256 % 256 ≡ c = omega (arith, p, q, r, s) in
    let fourth : v % 256 ≡ d = omega (arith, p, q, r, s) in
    rw (first, second, third, fourth) refl

-- four bytes or more begin with the word of their value
begins : (bytes : List ℕ) → ((i : ℕ) → get_or bytes i 0 < 256) → 4 ≤ length bytes → take 4 bytes ≡ word (value_of bytes)
begins [] small long = absurd (omega (arith, long))
begins (a ∷ []) small long = absurd (omega (arith, long))
begins (a ∷ b ∷ []) small long = absurd (omega (arith, long))
begins (a ∷ b ∷ c ∷ []) small long = absurd (omega (arith, long))
begins (a ∷ b ∷ c ∷ d ∷ rest) small long = sym (word-digits a b c d (small 0) (small 1) (small 2) (small 3))

-- 4096 bytes that go on as they begin are filled with their value
pub is-filled : (bytes : List ℕ) → ((i : ℕ) → get_or bytes i 0 < 256) → length bytes ≡ 4096 → take 4092 bytes ≡ drop 4 bytes → bytes ≡ filled (value_of bytes)
unfolding filled
is-filled bytes small long same = repeats-word 1023 (value_of bytes) bytes long (begins bytes small (omega (arith, long))) same

-- a filled block goes on as it begins
pub filled-goes-on : (bytes : List ℕ) (v : ℕ) → bytes ≡ filled v → take 4092 bytes ≡ drop 4 bytes
unfolding filled
filled-goes-on bytes v is =
    let most : take 4092 bytes ≡ repeated 1023 v =
    ap (take 4092) (is ∙ repeated-more 1023 v) ∙ take_at (repeated 1023 v) (word v) 4092 (repeated-length 1023 v) in
    let after : drop 4 bytes ≡ repeated 1023 v = ap (drop 4) is ∙ drop_at (word v) (repeated 1023 v) 4 refl in
    most ∙ sym after

-- ---- the test of a block, byte by byte

-- the first bytes, so many of them, go on as they begin; or the block does not
pub record GoesOn (bytes : List ℕ) (count : ℕ) (same : Bool) : Type 0 where
  pub yes : same ≡ true → take count bytes ≡ take count (drop 4 bytes)
  pub no : same ≡ false → take 4092 bytes ≡ drop 4 bytes → ⊥

pub goes-on-begun : (bytes : List ℕ) → GoesOn bytes 0 true
goes-on-begun bytes = record { yes = λ is. refl; no = λ is. absurd cc }

-- a byte that stands four places behind too
same-behind : (bytes : List ℕ) (count : ℕ) → get_or (drop 4 bytes) count 0 ≡ get_or bytes (count + 4) 0
same-behind bytes count = let behind : 4 + count ≡ count + 4 = omega arith in get_or-drop 4 bytes count 0 ∙ ap (λ i. get_or bytes i 0) behind

in-front : (bytes : List ℕ) (count : ℕ) → count < 4092 → take 4092 bytes ≡ drop 4 bytes → get_or bytes count 0 ≡ get_or bytes (count + 4) 0
in-front bytes count below same = sym (get_or-take 4092 bytes count 0 below) ∙ ap (λ xs. get_or xs count 0) same ∙ same-behind bytes count

same-test : (a b : ℕ) → a ≡ b → (a == b) ≡ false → ⊥
same-test a b is other = grind (arith, nat_tests)

equal-test : (a b : ℕ) → (a == b) ≡ true → a ≡ b
equal-test a b is = grind (arith, nat_tests)

one-more : (bytes : List ℕ) (count : ℕ) → length bytes ≡ 4096 → count < 4092 → (before here : Bool) → GoesOn bytes count before
    → here ≡ (get_or bytes count 0 == get_or bytes (count + 4) 0) → GoesOn bytes (count + 1) (before && here)
one-more bytes count long below true true goes is = record {
  yes = λ both.
      take_more_same bytes (drop 4 bytes) count 0 (omega (arith, long)) (omega (arith, long, length-drop 4 bytes)) (goes.yes refl)
      (equal-test (get_or bytes count 0) (get_or bytes (count + 4) 0) (sym is) ∙ sym (same-behind bytes count));
  no = λ wrong. absurd cc;
}
one-more bytes count long below true false goes is = record {
  yes = λ wrong. absurd cc;
  no = λ other same. same-test (get_or bytes count 0) (get_or bytes (count + 4) 0) (in-front bytes count below same) (sym is);
}
one-more bytes count long below false here goes is = record { yes = λ wrong. absurd cc; no = λ other. goes.no refl }

-- one byte more
pub goes-on-more : (bytes : List ℕ) (count : ℕ) (before here now : Bool) → length bytes ≡ 4096 → count < 4092 → GoesOn bytes count before
    → here ≡ (get_or bytes count 0 == get_or bytes (count + 4) 0) → now ≡ (before && here) → GoesOn bytes (count + 1) now
goes-on-more bytes count before here now long below goes is both = subst (GoesOn bytes (count + 1)) (sym both) (one-more bytes count long below before
    here goes is)

-- all of them
pub all-go-on : (bytes : List ℕ) (count : ℕ) (same : Bool) → length bytes ≡ 4096 → 4092 ≤ count → count ≤ 4092 → GoesOn bytes count same → same ≡ true
    → take 4092 bytes ≡ drop 4 bytes
all-go-on bytes count same long enough most goes is =
    let all : count ≡ 4092 = omega arith in
    subst (λ n. take n bytes ≡ take n (drop 4 bytes)) all (goes.yes is) ∙ take_all 4092 (drop 4 bytes) (omega (arith, long, length-drop 4 bytes))
