-- The first bytes of an image that was migrated.
use Rattle.std.proofs.Common.{◌≡◌, ◌≤◌, ◌<◌, ◌+◌, ◌==◌, ◌&&◌, ℕ, zero, suc, Bool, true, false, List, [], ◌∷◌, ◌++◌, length, take, drop, refl, sym, ap}
use Rattle.std.proofs.Common.{◌∙◌, arith}
use Rattle.std.specs.Prelude.{replicate}
use Rattle.std.proofs.lemmas.Bool.Decides.{nat_tests}
use Rattle.std.proofs.lemmas.List.{drop-drop}
use Rattle.std.proofs.lemmas.List.Elements.{All-nil}
use Rattle.std.proofs.lemmas.Slice.Eq.{bytes_eq-Decides}
use Rattle.nq_model.specs.protocol.Change.{IsFileWithin, IsWithinBounds}
use Rattle.nq_model.specs.protocol.Kept.{Kept, fresh_row}
use Rattle.nq_image.specs.Heads.{boots_checks, boots_of}
use Rattle.nq_image.specs.Image.{FoundOne}
use Rattle.nq_image.specs.Layout.{are_zeros, piece, word_in}
use Rattle.nq_image.specs.Nothing.{nothing_kept}
use Rattle.nq_image.specs.Writing.{front_bytes, heads_bytes}
use Rattle.nq_image.specs.declared.Boots.{Boots}
use Rattle.nq_image.proofs.Emptying.{nothing-within}
use Rattle.nq_image.proofs.Holding.{test-le, test-lt}
use Rattle.nq_image.proofs.Pieces.{length-piece, piece-in, piece-of-first}
use Rattle.nq_image.proofs.ReadBack.{Hold}
use Rattle.nq_store.specs.Migrated.{IsMigrated, blocks_in, files_in, numbers_then}
use Rattle.nq_store.proofs.Parts.{HasPartsOfOne}

-- ---- pieces

take-none : (n : ℕ) → take {A = ℕ} n [] ≡ []
take-none zero = refl
take-none (suc n) = refl

split : (m n : ℕ) (xs : List ℕ) → take (m + n) xs ≡ take m xs ++ take n (drop m xs)
split zero n xs = let e : 0 + n ≡ n = omega arith in ap (λ (k : ℕ). take k xs) e
split (suc m) n [] = let e : suc m + n ≡ suc (m + n) = omega arith in ap (λ (k : ℕ). take {A = ℕ} k []) e ∙ sym (take-none n)
split (suc m) n (x ∷ xs) =
    let e : suc m + n ≡ suc (m + n) = omega arith in
    ap (λ (k : ℕ). take k (x ∷ xs)) e ∙ ap (λ (l : List ℕ). x ∷ l) (split m n xs)

pub piece-join : (place m n : ℕ) (bytes : List ℕ) → piece place (m + n) bytes ≡ piece place m bytes ++ piece (place + m) n bytes
unfolding piece
piece-join place m n bytes =
    split m n (drop place bytes) ∙ ap (λ (l : List ℕ). take m (drop place bytes) ++ take n l) (drop-drop m place bytes)

-- a piece behind the numbers
pub piece-behind : (k size : ℕ) (old new : List ℕ) → k + size ≤ 28644 → piece 28 28644 new ≡ piece 28 28644 old → piece (28 + k) size new
    ≡ piece (28 + k) size old
piece-behind k size old new le same =
    sym (piece-in 28 28644 k size new le) ∙ ap (λ (b : List ℕ). piece k size b) same ∙ piece-in 28 28644 k size old le

is-zero : (n : ℕ) → (n == 0) ≡ true → n ≡ 0
is-zero n h = grind (arith, nat_tests)

each-two : (a b : Bool) → (a && b) ≡ true → (a ≡ true) × (b ≡ true)
each-two true b h = (refl, h)
each-two false b h = cc

all-zeros : (xs : List ℕ) → are_zeros xs ≡ true → xs ≡ replicate (length xs) 0
all-zeros [] h = refl
all-zeros (x ∷ xs) h =
    let two = each-two (x == 0) (are_zeros xs) h in
    ap (λ (y : ℕ). y ∷ xs) (is-zero x two.0) ∙ ap (λ (l : List ℕ). 0 ∷ l) (all-zeros xs two.1)

last-zeros : (bytes : List ℕ) → bytes ≡ replicate 48 0 → piece 12 36 bytes ≡ replicate 36 0
unfolding piece
last-zeros bytes is = ap (λ (b : List ℕ). take 36 (drop 12 b)) is

-- ---- the numbers

pub record AreBootsRight (boots : Boots) : Type 0 where
  pub boot : boots.boot < 2147483648
  pub opened : boots.opened ≤ boots.boot

pub boots-right : (front : List ℕ) (boots : Boots) → Hold (boots_checks front) → boots_of front ≡ boots → AreBootsRight boots
unfolding boots_of
boots-right front boots hold is =
    let a = test-lt (word_in 8 front) 2147483648 hold.0 in
    let b = test-le (word_in 12 front) (word_in 8 front) hold.1.0 in
    let e : word_in 8 front ≡ boots.boot = ap (λ (x : Boots). x.boot) is in
    let f : word_in 12 front ≡ boots.opened = ap (λ (x : Boots). x.opened) is in
    record { boot = omega (arith, a, e); opened = omega (arith, b, e, f) }

-- the numbers of version 2, with nothing else
abbrev pub numbered : FoundOne → Kept
numbered found = record {
  files = [];
  hosts = replicate 64 fresh_row;
  boot = found.boots.boot;
  opened = found.boots.opened;
  longest = 60;
  next = files_in found.rows.slots + 1;
}

pub numbered-within : (found : FoundOne) → AreBootsRight found.boots → files_in found.rows.slots ≤ 256 → IsWithinBounds (numbered found)
unfolding nothing_kept
numbered-within found boots few =
    let a = boots.boot in
    record {
      files = All-nil (IsFileWithin (files_in found.rows.slots + 1));
      apart = tt;
      few_files = omega arith;
      few_blocks = omega arith;
      hosts = nothing-within.hosts;
      all_hosts = nothing-within.all_hosts;
      opened = boots.opened;
      boot = omega (arith, a);
      long = omega arith;
      short = omega arith;
      ids = omega arith;
      few_ids = omega (arith, few);
    }

abbrev image_name : List ℕ
image_name = 78 ∷ 81 ∷ 78 ∷ 70 ∷ 83 ∷ 73 ∷ 77 ∷ []

joined-front : (found : FoundOne) → image_name ++ (numbers_then found ++ replicate 36 0) ≡ front_bytes (blocks_in found.rows.slots) (numbered found)
unfolding front_bytes heads_bytes
joined-front found = refl

pub front-then : (found : FoundOne) (old new : List ℕ) → HasPartsOfOne old found → IsMigrated found old new → piece 0 64 new
    ≡ front_bytes (blocks_in found.rows.slots) (numbered found)
front-then found old new p m =
    let long = p.long in
    let name : piece 0 7 new ≡ image_name = m.name ∙ (bytes_eq-Decides (piece 0 7 old) image_name).0 p.name in
    let size = length-piece 16 48 old (omega (arith, long)) in
    let sixteen : are_zeros (piece 16 48 old) ≡ true = ap are_zeros (sym (piece-of-first 64 16 48 old (omega arith))) ∙ p.boots.1.1.0 in
    let gap : piece 28 36 old ≡ replicate 36 0 =
    sym (piece-in 16 48 12 36 old (omega arith)) ∙ last-zeros (piece 16 48 old) (all-zeros (piece 16 48 old) sixteen ∙ ap (λ (n : ℕ). replicate n 0) size) in
    let behind : piece 28 36 new ≡ replicate 36 0 = piece-behind 0 36 old new (omega arith) m.rows ∙ gap in
    piece-join 0 7 57 new
    ∙ ap (λ (b : List ℕ). piece 0 7 new ++ b) (piece-join 7 21 36 new)
    ∙ ap (λ (b : List ℕ). b ++ (piece 7 21 new ++ piece 28 36 new)) name
    ∙ ap (λ (b : List ℕ). image_name ++ (b ++ piece 28 36 new)) m.numbers
    ∙ ap (λ (b : List ℕ). image_name ++ (numbers_then found ++ b)) behind
    ∙ joined-front found
