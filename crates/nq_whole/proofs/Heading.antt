-- A head is read as it was written.
use Rattle.std.proofs.Common.{◌≡◌, ◌≤◌, ℕ, Bool, true, false, nat_le, List, [], ◌++◌, Option, Some, None, take, drop, codes, if◌then◌else◌, refl, sym, ap, ◌∙◌, arith}
use Rattle.std.specs.Prelude.{bytes_eq, ◌&&◌}
use Rattle.std.proofs.lemmas.Bool.Decides.{nat_tests}
use Rattle.std.proofs.lemmas.Slice.Eq.{bytes_eq-Decides}
use Rattle.nq_base.specs.Block.{filled, value_of, word}
use Rattle.nq_base.proofs.Filling.{filled-value}
use Rattle.nq_whole.specs.Heads.{block_of, front_of_head, head_in, most_bytes}
use Rattle.nq_whole.specs.Pieces.{piece_of}
use Rattle.nq_whole.specs.declared.heads.FileHead.{FileHead}

-- the piece that the first bytes alone make
pub first-piece : (head : FileHead) → piece_of 0 (front_of_head head) ≡ block_of head
unfolding piece_of block_of
first-piece head = refl

value-word : (v : ℕ) (rest : List ℕ) → value_of (word v ++ rest) ≡ v
unfolding filled
value-word v rest = filled-value v

fits : (n most : ℕ) → n ≤ most → nat_le n most ≡ true
fits n most small = grind (arith, nat_tests)

-- a head of two numbers, where the second is one of bytes
abbrev told : (file size : ℕ) → Option FileHead
told file size = if nat_le size most_bytes then Some (record { file = file; size = size }) else None

told-same : (file size : ℕ) (head : FileHead) → file ≡ head.file → size ≡ head.size → head.size ≤ most_bytes → told file size ≡ Some head
told-same file size head same also small =
    ap (λ (f : ℕ). told f size) same
    ∙ ap (λ (n : ℕ). told head.file n) also
    ∙ ap (λ (t : Bool). if t then Some head else None) (fits head.size most_bytes small)

pub read-again : (head : FileHead) → head.size ≤ most_bytes → head_in (block_of head) ≡ Some head
unfolding head_in block_of
read-again head small =
    told-same (value_of (block_of head)) (value_of (drop 4 (block_of head))) head (value-word head.file []) (value-word head.size []) small

-- the mark repeats no word
no-mark : (v : ℕ) → take 10 (drop 8 (filled v)) ≡ codes "whole file" → ⊥
unfolding filled
no-mark v is =
    let one : v ≡ 2003332972 = sym (filled-value v) ∙ ap value_of is in
    let other : v ≡ 1696622185 = sym (filled-value v) ∙ ap (λ (bytes : List ℕ). value_of (drop 4 bytes)) is in
    omega (arith, one, other)

unmarked : (test : Bool) (more : Bool) (head : FileHead) → (test ≡ true → ⊥) → (if test && more then Some head else None) ≡ None
unmarked true more head not = absurd (not refl)
unmarked false more head not = refl

-- a block that repeats a number tells no head
pub none-repeated : (v : ℕ) → head_in (filled v) ≡ None
unfolding head_in
none-repeated v =
    unmarked (bytes_eq (take 10 (drop 8 (filled v))) (codes "whole file")) _ _
    (λ marked. no-mark v ((bytes_eq-Decides (take 10 (drop 8 (filled v))) (codes "whole file")).0 marked))
