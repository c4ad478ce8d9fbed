-- The pieces of a file, one behind the other.
use Rattle.std.proofs.Common.{◌≡◌, ◌≤◌, ℕ, zero, suc, ◌+◌, ◌-◌, ◌*◌, List, [], ◌∷◌, ◌++◌, length, take, drop, refl, sym, ap, ◌∙◌, arith}
use Rattle.std.specs.Prelude.{replicate}
use Rattle.std.proofs.lemmas.List.{replicate-append-replicate, take-append-le, take_all}
use Rattle.nq_base.specs.Block.{filled, repeated, word}
use Rattle.nq_whole.specs.Pieces.{joined_pieces, piece_of}
use Rattle.nq_xdr.specs.Words.{repeats}

same-words : (times v : ℕ) → repeats times (word v) ≡ repeated times v
same-words zero v = refl
same-words (suc times) v = ap (λ rest. word v ++ rest) (same-words times v)

-- the words of a filled block
pub filled-words : (v : ℕ) → repeats 1024 (word v) ≡ filled v
unfolding filled
filled-words v = same-words 1024 v

-- the first bytes, with zeros behind them up to so many
abbrev filled-to : ℕ → List ℕ → List ℕ
filled-to n bytes = take n bytes ++ replicate (n - length (take n bytes)) 0

one-less : (m n : ℕ) → suc m - suc n ≡ m - n
one-less m n = omega arith

none-less : (k : ℕ) → k - 0 ≡ k
none-less k = omega arith

filled-none : (k : ℕ) → filled-to k [] ≡ replicate k 0
filled-none k =
    ap (λ (t : List ℕ). t ++ replicate (k - length t) 0) (take_all k [] (omega arith)) ∙ ap (λ (n : ℕ). replicate n 0) (none-less k)

none-more : (k : ℕ) → k ≡ 0 + k
none-more k = omega arith

one-more : (m k : ℕ) → suc (m + k) ≡ suc m + k
one-more m k = omega arith

filled-further : (m k : ℕ) (bytes : List ℕ) → filled-to m bytes ++ filled-to k (drop m bytes) ≡ filled-to (m + k) bytes
filled-further zero k bytes = ap (λ (n : ℕ). filled-to n bytes) (none-more k)
filled-further (suc m) k [] =
    ap (λ (b : List ℕ). b ++ filled-to k []) (filled-none (suc m))
    ∙ ap (λ (b : List ℕ). replicate (suc m) 0 ++ b) (filled-none k)
    ∙ replicate-append-replicate (suc m) k 0
    ∙ sym (filled-none (suc m + k))
filled-further (suc m) k (byte ∷ bytes) =
    ap (λ (n : ℕ). byte ∷ ((take m bytes ++ replicate n 0) ++ filled-to k (drop m bytes))) (one-less m (length (take m bytes)))
    ∙ ap (λ (b : List ℕ). byte ∷ b) (filled-further m k bytes)
    ∙ ap (λ (n : ℕ). byte ∷ (take (m + k) bytes ++ replicate n 0)) (sym (one-less (m + k) (length (take (m + k) bytes))))
    ∙ ap (λ (n : ℕ). filled-to n (byte ∷ bytes)) (one-more m k)

once-more : (count : ℕ) → 4096 * count + 4096 ≡ 4096 * suc count
once-more count = omega arith

joined-are : (count : ℕ) (bytes : List ℕ) → joined_pieces count bytes ≡ filled-to (4096 * count) bytes
unfolding piece_of
joined-are zero bytes = refl
joined-are (suc count) bytes =
    ap (λ (b : List ℕ). b ++ filled-to 4096 (drop (4096 * count) bytes)) (joined-are count bytes)
    ∙ filled-further (4096 * count) 4096 bytes
    ∙ ap (λ (n : ℕ). filled-to n bytes) (once-more count)

pub whole : (count : ℕ) (bytes : List ℕ) → length bytes ≤ 4096 * count → take (length bytes) (joined_pieces count bytes) ≡ bytes
whole count bytes enough =
    ap (take (length bytes)) (joined-are count bytes ∙ ap (λ (b : List ℕ). b ++ replicate (4096 * count - length b) 0) (take_all (4096 * count) bytes enough))
    ∙ take-append-le (length bytes) bytes (replicate (4096 * count - length bytes) 0) (omega arith)
    ∙ take_all (length bytes) bytes (omega arith)
