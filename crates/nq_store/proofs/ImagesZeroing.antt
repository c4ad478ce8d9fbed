-- What is written to free blocks changes nothing that stands in an image.
use Rattle.std.proofs.Common.{◌≡◌, ◌≢◌, ◌≤◌, ◌<◌, ◌+◌, ◌-◌, ◌⊎◌, inl, inr, ℕ, List, [], ◌∷◌, drop, length, get_or, refl, sym, ap, subst, ◌∙◌, arith}
use Rattle.std.proofs.Common.{length-drop}
use Rattle.std.specs.List.{All}
use Rattle.std.proofs.lemmas.Bool.{cases_eq}
use Rattle.std.proofs.lemmas.List.{ext_get_or, length-take}
use Rattle.std.proofs.lemmas.List.Elements.{All-cons, All-contains, All-head, All-nil, All-tail}
use Rattle.nq_base.specs.Block.{zeros}
use Rattle.nq_base.proofs.Filling.{zeros-length}
use Rattle.nq_disk.specs.Bytes.{Torn, written}
use Rattle.nq_disk.specs.BytesLaws.{length-written, torn-written, written-within, written-outside}
use Rattle.nq_image.specs.Kept.{body_in}
use Rattle.nq_image.specs.Layout.{block_place, piece}
use Rattle.nq_image.specs.Standing.{Agree, IsFree, IsInBlock, IsUsed, Standing, Stands, blocks_in}
use Rattle.nq_image.proofs.Agreeing.{agree-stands}
use Rattle.nq_image.proofs.GivenBlocks.{both-of}
use Rattle.nq_image.proofs.Giving.{IsHeld}
use Rattle.nq_image.proofs.Overwriting.{apart-blocks, bytes-agree, not-tables}
use Rattle.nq_image.proofs.Pieces.{at-piece, length-piece, piece-same}
use Rattle.nq_store.specs.Changing.{HasZeros, zeroed}

-- a place is before or behind a block
abbrev pub IsBeside : (block place : ℕ) → Type 0
IsBeside block place = (place < block_place block) ⊎ (block_place block + 4096 ≤ place)

beside-block : (a b place : ℕ) → a ≢ b → IsInBlock a place → IsBeside b place
beside-block a b place ne here = by (apart-blocks a b ne)
  where
    by : (block_place a + 4096 ≤ block_place b) ⊎ (block_place b + 4096 ≤ block_place a) → IsBeside b place
    by (inl before) = let lt = here.1 in inl (omega arith)
    by (inr after) = let le = here.0 in inr (omega arith)

-- whatever stands in an image stands beside a free block
used-beside : (s : Standing) (block place : ℕ) → IsFree s block → IsUsed s place → IsBeside block place
used-beside s block place free (inl lt) = inl (omega arith)
used-beside s block place free (inr (inl t)) = beside-block (s.tables + t.0) block place (not-tables s.tables t.0 block t.1 free.apart) t.2
used-beside s block place free (inr (inr b)) =
    beside-block b.0 block place (All-contains (λ other. other ≢ block) (blocks_in s.rows) b.0 free.none b.1) b.2

pub torn-agrees : (s : Standing) (block : ℕ) (old new : List ℕ) → Stands old s → IsFree s block → Torn (block_place block) 4096 old new → Agree s old new
torn-agrees s block old new stands free torn =
    bytes-agree old s stands new torn.no_shorter (λ place lt used. torn.outside place lt (used-beside s block place free used))

pub written-agrees : (bytes : List ℕ) (s : Standing) (block : ℕ) (part : List ℕ) → Stands bytes s → IsFree s block → length part ≡ 4096
    → Agree s bytes (written (block_place block) part bytes)
written-agrees bytes s block part stands free long =
    let IsTorn : ℕ → Type 0 = λ n. Torn (block_place block) n bytes (written (block_place block) part bytes) in
    torn-agrees s block bytes (written (block_place block) part bytes) stands free (subst IsTorn long (torn-written (block_place block) part bytes))

-- ---- zeros over free blocks

agree-itself : (s : Standing) (bytes : List ℕ) → Agree s bytes bytes
agree-itself s bytes = record {
  rows = refl;
  blocks = record { no_shorter = omega arith; tables = λ n lt. refl; bodies = same (blocks_in s.rows) };
}
  where
    same : (blocks : List ℕ) → All (λ block. body_in bytes block ≡ body_in bytes block) blocks
    same [] = All-nil (λ block. body_in bytes block ≡ body_in bytes block)
    same (block ∷ blocks) = All-cons (λ b. body_in bytes b ≡ body_in bytes b) block blocks refl (same blocks)

pub agree-on : (s : Standing) (one two three : List ℕ) → Agree s one two → Agree s two three → Agree s one three
agree-on s one two three a b = record {
  rows = b.rows ∙ a.rows;
  blocks = record {
    no_shorter = let x = a.blocks.no_shorter in let y = b.blocks.no_shorter in omega arith;
    tables = λ n lt. b.blocks.tables n lt ∙ a.blocks.tables n lt;
    bodies = both-of (λ block. body_in two block ≡ body_in one block) (λ block. body_in three block ≡ body_in two block) (λ block. body_in three block
        ≡ body_in one block) (blocks_in s.rows) (λ block p q. q ∙ p) a.blocks.bodies b.blocks.bodies;
  };
}

pub zeroed-agrees : (blocks bytes : List ℕ) (s : Standing) → Stands bytes s → All (IsFree s) blocks → Agree s bytes (zeroed blocks bytes)
zeroed-agrees [] bytes s stands free = agree-itself s bytes
zeroed-agrees (block ∷ blocks) bytes s stands free =
    let mid = written (block_place block) zeros bytes in
    let first = written-agrees bytes s block zeros stands (All-head (IsFree s) block blocks free) zeros-length in
    agree-on s bytes mid (zeroed blocks mid) first (zeroed-agrees blocks mid s (agree-stands s bytes mid stands first) (All-tail (IsFree s) block blocks free))

-- ---- the zeros

-- a block with a whole body is held whole
pub whole-body : (bytes : List ℕ) (block : ℕ) → length (body_in bytes block) ≡ 4096 → IsHeld (length bytes) block
unfolding piece
whole-body bytes block long =
    omega (arith, long, length-drop (block_place block) bytes, length-take 4096 (drop (block_place block) bytes))

pub zeros-held : (bytes : List ℕ) (block : ℕ) → HasZeros bytes block → IsHeld (length bytes) block
zeros-held bytes block has = whole-body bytes block (ap length has ∙ zeros-length)

back : (p k : ℕ) → p + k - p ≡ k
back p k = omega arith

-- a body that was written stands in its block
pub body-there : (bytes : List ℕ) (block : ℕ) (part : List ℕ) → length part ≡ 4096 → body_in (written (block_place block) part bytes) block ≡ part
body-there bytes block part long =
    let place = block_place block in
    let new = written place part bytes in
    let size = length-written place part bytes (inr (omega (arith, long))) in
    let whole : place + 4096 ≤ length new = omega (arith, size, long) in
    ext_get_or 0 (piece place 4096 new) part (length-piece place 4096 new whole ∙ sym long)
    (λ k lt. at k (omega (arith, lt, length-piece place 4096 new whole)))
  where
    at : (k : ℕ) → k < 4096 → get_or (piece (block_place block) 4096 (written (block_place block) part bytes)) k 0 ≡ get_or part k 0
    at k lt =
        at-piece (block_place block) 4096 k (written (block_place block) part bytes) lt
        ∙ written-within (block_place block) part bytes (block_place block + k) (omega arith) (omega (arith, lt, long))
        ∙ ap (λ (i : ℕ). get_or part i 0) (back (block_place block) k)

-- a block that is held keeps its body where another one is written
pub body-beside : (bytes : List ℕ) (a b : ℕ) (part : List ℕ) → length part ≡ 4096 → a ≢ b → IsHeld (length bytes) a
    → body_in (written (block_place b) part bytes) a ≡ body_in bytes a
body-beside bytes a b part long ne whole =
    let new = written (block_place b) part bytes in
    let size = length-written (block_place b) part bytes (inr (omega (arith, long))) in
    piece-same (block_place a) 4096 new bytes (omega (arith, size, whole)) whole (λ k lt. at k lt)
  where
    at : (k : ℕ) → k < 4096 → get_or (written (block_place b) part bytes) (block_place a + k) 0 ≡ get_or bytes (block_place a + k) 0
    at k lt = by (beside-block a b (block_place a + k) ne (omega arith, omega (arith, lt)))
      where
        by : IsBeside b (block_place a + k) → get_or (written (block_place b) part bytes) (block_place a + k) 0 ≡ get_or bytes (block_place a + k) 0
        by (inl before) = written-outside (block_place b) part bytes (block_place a + k) (inl before)
        by (inr after) = written-outside (block_place b) part bytes (block_place a + k) (inr (omega (arith, after, long)))

zeros-stay : (bytes : List ℕ) (a b : ℕ) → HasZeros bytes a → HasZeros (written (block_place b) zeros bytes) a
zeros-stay bytes a b has = elim (cases_eq a b) [
  | inl e ↦ ap (body_in (written (block_place b) zeros bytes)) e ∙ body-there bytes b zeros zeros-length
  | inr ne ↦ body-beside bytes a b zeros zeros-length ne (zeros-held bytes a has) ∙ has
]

zeros-stay-all : (blocks bytes : List ℕ) (a : ℕ) → HasZeros bytes a → HasZeros (zeroed blocks bytes) a
zeros-stay-all [] bytes a has = has
zeros-stay-all (block ∷ blocks) bytes a has = zeros-stay-all blocks (written (block_place block) zeros bytes) a (zeros-stay bytes a block has)

pub all-zeros : (blocks bytes : List ℕ) → All (HasZeros (zeroed blocks bytes)) blocks
all-zeros [] bytes = All-nil (HasZeros bytes)
all-zeros (block ∷ blocks) bytes =
    let mid = written (block_place block) zeros bytes in
    All-cons (HasZeros (zeroed blocks mid)) block blocks (zeros-stay-all blocks mid block (body-there bytes block zeros zeros-length)) (all-zeros blocks mid)
