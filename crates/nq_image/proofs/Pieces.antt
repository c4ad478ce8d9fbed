-- Pieces of bytes, and bytes with a part overwritten.
use Rattle.std.proofs.Common.{◌≡◌, ◌≤◌, ◌<◌, ◌+◌, ◌-◌, ◌⊎◌, inl, inr, max, ℕ, List, ◌++◌, take, drop, length, get_or, refl, sym, ap, ◌∙◌, arith}
use Rattle.std.proofs.Common.{length-append, length-drop}
use Rattle.std.proofs.lemmas.Bool.{cases_lt}
use Rattle.std.proofs.lemmas.List.{drop-append-le, drop-drop, drop-take, drop_at, ext_get_or, get_or-append_right, get_or-drop, get_or-take}
use Rattle.std.proofs.lemmas.List.{get_or_append_left, length-take-le, take-append-le, take-take, take_at}
use Rattle.nq_image.specs.Layout.{piece}
use Rattle.nq_image.specs.Standing.{overwritten}

pub length-piece : (place size : ℕ) (bytes : List ℕ) → place + size ≤ length bytes → length (piece place size bytes) ≡ size
unfolding piece
length-piece place size bytes le = length-take-le size (drop place bytes) (omega (arith, length-drop place bytes, le))

pub at-piece : (place size k : ℕ) (bytes : List ℕ) → k < size → get_or (piece place size bytes) k 0 ≡ get_or bytes (place + k) 0
unfolding piece
at-piece place size k bytes lt = get_or-take size (drop place bytes) k 0 lt ∙ get_or-drop place bytes k 0

-- pieces are the same where their bytes are
pub piece-same : (place size : ℕ) (one two : List ℕ) → place + size ≤ length one → place + size ≤ length two
    → ((k : ℕ) → k < size → get_or one (place + k) 0 ≡ get_or two (place + k) 0) → piece place size one ≡ piece place size two
piece-same place size one two a b same =
    ext_get_or 0 (piece place size one) (piece place size two) (length-piece place size one a ∙ sym (length-piece place size two b))
    (λ k lt. at k (omega (arith, lt, length-piece place size one a)))
  where
    at : (k : ℕ) → k < size → get_or (piece place size one) k 0 ≡ get_or (piece place size two) k 0
    at k lt = at-piece place size k one lt ∙ same k lt ∙ sym (at-piece place size k two lt)

-- a piece of a piece
pub piece-in : (from total place size : ℕ) (bytes : List ℕ) → place + size ≤ total → piece place size (piece from total bytes) ≡ piece (from + place)
    size bytes
unfolding piece
piece-in from total place size bytes le =
    let rest = total - place in
    let e : place + rest ≡ total = omega arith in
    let xs = drop from bytes in
    ap (λ (t : ℕ). take size (drop place (take t xs))) (sym e)
    ∙ ap (λ (b : List ℕ). take size b) (drop-take place rest xs)
    ∙ take-take size rest (drop place xs) (omega arith)
    ∙ ap (λ (b : List ℕ). take size b) (drop-drop place from bytes)

-- a piece of the first bytes
pub piece-of-first : (total place size : ℕ) (bytes : List ℕ) → place + size ≤ total → piece place size (piece 0 total bytes) ≡ piece place size bytes
piece-of-first total place size bytes le =
    let e : 0 + place ≡ place = omega arith in
    piece-in 0 total place size bytes le ∙ ap (λ (p : ℕ). piece p size bytes) e

pub piece-by-first : (total place size : ℕ) (one two : List ℕ) → place + size ≤ total → piece 0 total one ≡ piece 0 total two → piece place size one
    ≡ piece place size two
piece-by-first total place size one two le same =
    sym (piece-of-first total place size one le) ∙ ap (λ (b : List ℕ). piece place size b) same ∙ piece-of-first total place size two le

-- ---- bytes with a part overwritten

module _ (place : ℕ) (part bytes : List ℕ) (begins : place ≤ length bytes) where
  long-front : length (take place bytes) ≡ place
  long-front = length-take-le place bytes begins

  pub length-written : length (overwritten place part bytes) ≡ max (length bytes) (place + length part)
  unfolding overwritten
  length-written = omega (
    arith,
    begins,
    long-front,
    length-append (take place bytes) (part ++ drop (place + length part) bytes),
    length-append part
        (drop (place + length part) bytes),
    length-drop (place + length part) bytes,
  )

  pub over-before : (k : ℕ) → k < place → get_or (overwritten place part bytes) k 0 ≡ get_or bytes k 0
  unfolding overwritten
  over-before k lt =
      get_or_append_left (take place bytes) (part ++ drop (place + length part) bytes) 0 k (omega (arith, lt, long-front))
      ∙ get_or-take place bytes k 0 lt

  pub over-within : (k : ℕ) → place ≤ k → k < place + length part → get_or (overwritten place part bytes) k 0 ≡ get_or part (k - place) 0
  unfolding overwritten
  over-within k le lt =
      get_or-append_right (take place bytes) (part ++ drop (place + length part) bytes) place k 0 long-front le
      ∙ get_or_append_left part (drop (place + length part) bytes) 0 (k - place) (omega arith)

  pub over-after : (k : ℕ) → place + length part ≤ k → get_or (overwritten place part bytes) k 0 ≡ get_or bytes k 0
  unfolding overwritten
  over-after k le =
      get_or-append_right (take place bytes) (part ++ drop (place + length part) bytes) place k 0 long-front (omega arith)
      ∙ get_or-append_right part (drop (place + length part) bytes) (length part) (k - place) 0 refl (omega arith)
      ∙ get_or-drop (place + length part) bytes (k - place - length part) 0
      ∙ ap (λ (i : ℕ). get_or bytes i 0) (there k le)
    where
      there : (k : ℕ) → place + length part ≤ k → place + length part + (k - place - length part) ≡ k
      there k le = omega arith

pub length-over : (place : ℕ) (part bytes : List ℕ) → place + length part ≤ length bytes → length (overwritten place part bytes) ≡ length bytes
length-over place part bytes fits = omega (arith, fits, length-written place part bytes (omega (arith, fits)))

-- a piece beside the part stays
pub piece-beside : (from size place : ℕ) (part bytes : List ℕ) → place ≤ length bytes → from + size ≤ length bytes → (from + size ≤ place)
    ⊎ (place + length part ≤ from) → piece from size (overwritten place part bytes) ≡ piece from size bytes
piece-beside from size place part bytes begins within side =
    piece-same from size (overwritten place part bytes) bytes (omega (arith, within, length-written place part bytes begins)) within (λ k lt. at k lt side)
  where
    at : (k : ℕ) → k < size → (from + size ≤ place) ⊎ (place + length part ≤ from) → get_or (overwritten place part bytes) (from + k) 0 ≡ get_or bytes
        (from + k) 0
    at k lt (inl before) = over-before place part bytes begins (from + k) (omega arith)
    at k lt (inr after) = over-after place part bytes begins (from + k) (omega arith)

-- a piece around the part has it overwritten
pub piece-around : (from size place : ℕ) (part bytes : List ℕ) → from + size ≤ length bytes → from ≤ place → place + length part ≤ from + size
    → piece from size (overwritten place part bytes) ≡ overwritten (place - from) part (piece from size bytes)
piece-around from size place part bytes within begins ends =
    ext_get_or 0 (piece from size (overwritten place part bytes)) (overwritten (place - from) part (piece from size bytes))
    (long ∙ sym (length-over (place - from) part (piece from size bytes) inside ∙ length-piece from size bytes within))
    (λ k lt. at k (omega (arith, lt, long)))
  where
    fits : place + length part ≤ length bytes
    fits = omega arith

    inside : place - from + length part ≤ length (piece from size bytes)
    inside = omega (arith, length-piece from size bytes within)

    long : length (piece from size (overwritten place part bytes)) ≡ size
    long = length-piece from size (overwritten place part bytes) (omega (arith, within, length-over place part bytes fits))

    at-by : (k : ℕ) → k < size → (from + k < place) ⊎ ((place ≤ from + k) × (from + k < place + length part)) ⊎ (place + length part ≤ from + k)
        → get_or (overwritten place part bytes) (from + k) 0 ≡ get_or (overwritten (place - from) part (piece from size bytes)) k 0
    at-by k lt (inl before) =
        over-before place part bytes (omega (arith, fits)) (from + k) before
        ∙ sym (at-piece from size k bytes lt)
        ∙ sym (over-before (place - from) part (piece from size bytes) (omega (arith, inside)) k (omega arith))
    at-by k lt (inr (inl here)) =
        let first = here.0 in
        let last = here.1 in
        let e : from + k - place ≡ k - (place - from) = omega arith in
        over-within place part bytes (omega (arith, fits)) (from + k) first last
        ∙ ap (λ (i : ℕ). get_or part i 0) e
        ∙ sym (over-within (place - from) part (piece from size bytes) (omega (arith, inside)) k (omega arith) (omega arith))
    at-by k lt (inr (inr after)) =
        over-after place part bytes (omega (arith, fits)) (from + k) after
        ∙ sym (at-piece from size k bytes lt)
        ∙ sym (over-after (place - from) part (piece from size bytes) (omega (arith, inside)) k (omega arith))

    where-is : (k : ℕ) → (from + k < place) ⊎ ((place ≤ from + k) × (from + k < place + length part)) ⊎ (place + length part ≤ from + k)
    where-is k = elim (cases_lt (from + k) place) [
      | inl lt ↦ inl lt
      | inr le ↦ elim (cases_lt (from + k) (place + length part)) [ inl lt ↦ inr (inl (le, lt)) | inr past ↦ inr (inr past) ]
    ]

    at : (k : ℕ) → k < size → get_or (piece from size (overwritten place part bytes)) k 0 ≡ get_or (overwritten (place - from) part
        (piece from size bytes)) k 0
    at k lt = at-piece from size k (overwritten place part bytes) lt ∙ at-by k lt (where-is k)

-- ---- one record of so many bytes after another

pub take-over : (size place : ℕ) (part bytes : List ℕ) → size ≤ place → place + length part ≤ length bytes → take size (overwritten place part bytes)
    ≡ take size bytes
unfolding overwritten
take-over size place part bytes le fits =
    take-append-le size (take place bytes) (part ++ drop (place + length part) bytes) (omega (arith, le, long-front place part bytes (omega (arith, fits))))
    ∙ take-take size place bytes le

pub drop-over : (size place : ℕ) (part bytes : List ℕ) → size ≤ place → place + length part ≤ length bytes → drop size (overwritten place part bytes)
    ≡ overwritten (place - size) part (drop size bytes)
unfolding overwritten
drop-over size place part bytes le fits =
    let rest = place - size in
    let e : size + rest ≡ place = omega arith in
    let f : place + length part ≡ size + (rest + length part) = omega arith in
    drop-append-le size (take place bytes) (part ++ drop (place + length part) bytes) (omega (arith, le, long-front place part bytes (omega (arith, fits))))
    ∙ ap (λ (p : ℕ). drop size (take p bytes) ++ (part ++ drop (place + length part) bytes)) (sym e)
    ∙ ap (λ (b : List ℕ). b ++ (part ++ drop (place + length part) bytes)) (drop-take size rest bytes)
    ∙ ap (λ (p : ℕ). take rest (drop size bytes) ++ (part ++ drop p bytes)) f
    ∙ ap (λ (b : List ℕ). take rest (drop size bytes) ++ (part ++ b)) (sym (drop-drop (rest + length part) size bytes))

pub take-first : (size place : ℕ) (part bytes : List ℕ) → place ≡ 0 → length part ≡ size → take size (overwritten place part bytes) ≡ part
unfolding overwritten
take-first size place part bytes is long =
    ap (λ (p : ℕ). take size (take p bytes ++ (part ++ drop (place + length part) bytes))) is ∙ take_at part (drop (place + length part) bytes) size long

pub drop-first : (size place : ℕ) (part bytes : List ℕ) → place ≡ 0 → length part ≡ size → drop size (overwritten place part bytes) ≡ drop size bytes
unfolding overwritten
drop-first size place part bytes is long =
    let e : place + length part ≡ size = omega (arith, is, long) in
    ap (λ (p : ℕ). drop size (take p bytes ++ (part ++ drop (place + length part) bytes))) is
    ∙ drop_at part (drop (place + length part) bytes) size long
    ∙ ap (λ (p : ℕ). drop p bytes) e

-- what stands behind the part stays
pub drop-past : (size place : ℕ) (part bytes : List ℕ) → place + length part ≤ size → place + length part ≤ length bytes
    → drop size (overwritten place part bytes) ≡ drop size bytes
drop-past size place part bytes le fits =
    ext_get_or 0 (drop size (overwritten place part bytes)) (drop size bytes)
    (length-drop size (overwritten place part bytes) ∙ ap (λ (n : ℕ). n - size) (length-over place part bytes fits) ∙ sym (length-drop size bytes))
    (λ k lt. get_or-drop size (overwritten place part bytes) k 0 ∙ over-after place part bytes (omega (arith, fits)) (size + k) (omega arith)
    ∙ sym (get_or-drop size bytes k 0))

-- the part stands where it is written
pub piece-written : (place size : ℕ) (part bytes : List ℕ) → place ≤ length bytes → length part ≡ size → piece place size (overwritten place part bytes) ≡ part
piece-written place size part bytes begins long =
    ext_get_or 0 (piece place size (overwritten place part bytes)) part (all ∙ sym long) (λ k lt. at k (omega (arith, lt, all)))
  where
    all : length (piece place size (overwritten place part bytes)) ≡ size
    all = length-piece place size (overwritten place part bytes) (omega (arith, long, length-written place part bytes begins))

    at : (k : ℕ) → k < size → get_or (piece place size (overwritten place part bytes)) k 0 ≡ get_or part k 0
    at k lt =
        let e : place + k - place ≡ k = omega arith in
        at-piece place size k (overwritten place part bytes) lt
        ∙ over-within place part bytes begins (place + k) (omega arith) (omega (arith, lt, long))
        ∙ ap (λ (i : ℕ). get_or part i 0) e
