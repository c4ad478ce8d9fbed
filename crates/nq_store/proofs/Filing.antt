-- A file that is written: it keeps the first of the blocks that its row had, and gets new ones behind them.
use Rattle.std.proofs.Common.{◌≡◌, ◌≢◌, ◌≤◌, ◌<◌, ◌^◌, ◌+◌, ◌-◌, ◌*◌, ℕ, zero, suc, Bool, true, false, List, [], ◌∷◌, ◌++◌, Option, Some, None, take}
use Rattle.std.proofs.Common.{drop, map, length, get_or, if◌then◌else◌, refl, sym, ap, subst, ◌∙◌, arith, length-append}
use Rattle.std.specs.List.{All}
use Rattle.std.specs.Prelude.{nat_lt, replicate}
use Rattle.std.proofs.lemmas.List.{length-map, map-append, set_split, take-map, take-replicate}
use Rattle.std.proofs.lemmas.List.Elements.{All-append, All-head, All-same, All-tail, All-take, All-weaker}
use Rattle.std.proofs.lemmas.List.Sums.{sum_by-cons}
use Rattle.nq_base.specs.Block.{zeros}
use Rattle.nq_base.specs.Name.{IsName}
use Rattle.nq_image.specs.Kept.{body_in}
use Rattle.nq_image.specs.Standing.{AreDistinct, CanStand, HasBodies, IsApartFrom, IsFileBlock, IsNoneOf, PlacedFile, Standing, Stands, blocks_in}
use Rattle.nq_image.specs.Standing.{file_at, files_in, kept_at, others, overwritten, put_file, row_at, row_blocks, row_for, with_file_written}
use Rattle.nq_image.specs.Standing.{with_placed, with_rows}
use Rattle.nq_image.specs.Writing.{row_bytes}
use Rattle.nq_image.proofs.Agreeing.{all-front, all-rest, map-same}
use Rattle.nq_image.proofs.GivenBlocks.{apart-back, distinct-append}
use Rattle.nq_image.proofs.FileRows.{length-row}
use Rattle.nq_image.proofs.Giving.{IsHeld}
use Rattle.nq_image.proofs.Overwriting.{file-leaves, file-written, rows-written, whole-bodies}
use Rattle.nq_image.proofs.Owning.{new-file-kept, rows-of, same-file-kept}
use Rattle.nq_image.proofs.Placing.{file-stands, row-stands}
use Rattle.nq_image.proofs.Replacing.{around-row, blocks-append, blocks-around}
use Rattle.nq_image.proofs.Retaining.{kept-files}
use Rattle.nq_model.specs.protocol.Change.{with_file}
use Rattle.nq_model.specs.protocol.Kept.{Kept, blocks_in_all, blocks_of, resized, with_files}
use Rattle.nq_store.specs.Changing.{HasZeros}
use Rattle.nq_store.proofs.ImagesZeroing.{zeros-held}
use Rattle.nq_store.proofs.Seats.{IsNew, distinct-take}

-- ---- how many blocks there are

sum-put : (bytes : List ℕ) (x : PlacedFile) (files : List PlacedFile) → blocks_in_all (map (file_at bytes) (put_file x files)) ≡ length x.blocks
    + blocks_in_all (map (file_at bytes) files)
unfolding file_at
sum-put bytes x [] = omega (arith, sum_by-cons blocks_of (file_at bytes x) [], length-map x.blocks (body_in bytes))
sum-put bytes x (f ∷ files) = by (nat_lt x.id f.id) (sum-put bytes x files)
  where
    own : (g : PlacedFile) (rest : List PlacedFile) → blocks_in_all (map (file_at bytes) (g ∷ rest)) ≡ length g.blocks + blocks_in_all
        (map (file_at bytes) rest)
    own g rest = omega (arith, sum_by-cons blocks_of (file_at bytes g) (map (file_at bytes) rest), length-map g.blocks (body_in bytes))

    by : (b : Bool) → blocks_in_all (map (file_at bytes) (put_file x files)) ≡ length x.blocks + blocks_in_all (map (file_at bytes) files)
        → blocks_in_all (map (file_at bytes) (if b then x ∷ f ∷ files else f ∷ put_file x files)) ≡ length x.blocks + blocks_in_all
        (map (file_at bytes) (f ∷ files))
    by true more = own x (f ∷ files)
    by false more = omega (arith, own f (put_file x files), own f files, more)

sum-rows : (bytes : List ℕ) (rows : List (Option PlacedFile)) (files : List PlacedFile) → blocks_in_all (map (file_at bytes) (with_rows files rows))
    ≡ blocks_in_all (map (file_at bytes) files) + length (blocks_in rows)
unfolding with_rows blocks_in
sum-rows bytes [] files = omega arith
sum-rows bytes (None ∷ rows) files = sum-rows bytes rows files
sum-rows bytes (Some x ∷ rows) files =
    omega (arith, sum-rows bytes rows (put_file x files), sum-put bytes x files, length-append x.blocks (blocks_in rows))

pub blocks-together : (bytes : List ℕ) (s : Standing) → blocks_in_all (kept_at bytes s).files ≡ length (blocks_in s.rows)
blocks-together bytes s = omega (arith, ap blocks_in_all (kept-files bytes s), sum-rows bytes s.rows [])

-- ---- the blocks of one row among all

pub blocks-here : (s : Standing) (slot : ℕ) → slot < length s.rows → blocks_in s.rows ≡ blocks_in (take slot s.rows) ++ (row_blocks (row_at s slot)
    ++ blocks_in (drop (suc slot) s.rows))
blocks-here s slot lt = ap blocks_in (around-row slot s.rows lt) ∙ blocks-around (take slot s.rows) (drop (suc slot) s.rows) (row_at s slot)

pub blocks-others : (s : Standing) (slot : ℕ) → blocks_in (others slot s.rows) ≡ blocks_in (take slot s.rows) ++ blocks_in (drop (suc slot) s.rows)
blocks-others s slot = blocks-append (take slot s.rows) (drop (suc slot) s.rows)

pub blocks-with : (s : Standing) (slot : ℕ) (row : Option PlacedFile) → slot < length s.rows → blocks_in (with_placed s slot row).rows
    ≡ blocks_in (take slot s.rows) ++ (row_blocks row ++ blocks_in (drop (suc slot) s.rows))
blocks-with s slot row lt = ap blocks_in (set_split s.rows slot row lt) ∙ blocks-around (take slot s.rows) (drop (suc slot) s.rows) row

-- what holds of all blocks holds of those of the row, and of those of the others
pub of-row : (P : ℕ → Type 0) (s : Standing) (slot : ℕ) → slot < length s.rows → All P (blocks_in s.rows) → All P (row_blocks (row_at s slot))
    × All P (blocks_in (others slot s.rows))
of-row P s slot lt all =
    let front = blocks_in (take slot s.rows) in
    let own = row_blocks (row_at s slot) in
    let rest = blocks_in (drop (suc slot) s.rows) in
    let flat = All-same P (front ++ (own ++ rest)) (blocks_in s.rows) (sym (blocks-here s slot lt)) all in
    let behind = all-rest P front (own ++ rest) flat in (
      all-front P own rest behind,
      All-same P (blocks_in (others slot s.rows)) (front ++ rest) (blocks-others s slot) (All-append P front rest (all-front P front (own ++ rest)
          flat) (all-rest P own rest behind)),
    )

-- ---- bodies that are cut, or get zeros behind them

module _ {X : Type 0} (z : X) (m : ℕ) where
  take-padded : (n : ℕ) (xs : List X) → n ≤ m + length xs → take n (xs ++ replicate m z) ≡ take n xs ++ replicate (n - length xs) z
  take-padded zero [] le = refl
  take-padded (suc n) [] le =
      let e : suc n ≡ suc n - 0 = omega arith in
      take-replicate (suc n) m z (omega (arith, le)) ∙ ap (λ (k : ℕ). replicate k z) e
  take-padded zero (x ∷ xs) le = let e : 0 ≡ 0 - suc (length xs) = omega arith in ap (λ (k : ℕ). replicate k z) e
  take-padded (suc n) (x ∷ xs) le =
      let e : n - length xs ≡ suc n - suc (length xs) = omega arith in
      ap (λ (l : List X). x ∷ l) (take-padded n xs (omega (arith, le)))
      ∙ ap (λ (k : ℕ). x ∷ (take n xs ++ replicate k z)) e

zeros-map : (bytes blocks : List ℕ) → All (HasZeros bytes) blocks → map (body_in bytes) blocks ≡ replicate (length blocks) zeros
zeros-map bytes [] all = refl
zeros-map bytes (block ∷ blocks) all =
    ap (λ (b : List ℕ). b ∷ map (body_in bytes) blocks) (All-head (HasZeros bytes) block blocks all)
    ∙ ap (λ (l : List (List ℕ)). zeros ∷ l) (zeros-map bytes blocks (All-tail (HasZeros bytes) block blocks all))

-- a file in its row, which keeps the first of the blocks that the row had, and gets new ones behind them
pub record IsSeated (bytes : List ℕ) (s : Standing) (file : PlacedFile) (known fresh : List ℕ) : Type 0 where
  pub row : file.slot < 256
  pub had : row_blocks (row_at s file.slot) ≡ known
  pub blocks : file.blocks ≡ take (length file.blocks) known ++ fresh
  pub count : length fresh ≡ length file.blocks - length known
  pub distinct : AreDistinct fresh
  pub new : All (IsNew s) fresh
  pub zeros : All (HasZeros bytes) fresh

module _ (bytes : List ℕ) (s : Standing) (stands : Stands bytes s) (file : PlacedFile) (known fresh : List ℕ) (seated : IsSeated bytes s file known
    fresh) where
  abbrev n : ℕ
  n = length file.blocks

  abbrev kept_blocks : List ℕ
  kept_blocks = take n known

  within : file.slot < length s.rows
  within = let lt = seated.row in omega (arith, lt, rows-of bytes s stands)

  pub has-bodies : HasBodies s file bytes bytes
  has-bodies =
      let body = body_in bytes in
      let were = map body known in
      let cut : List (List ℕ) → List (List ℕ) = λ l. resized n l in
      let more : length fresh ≡ n - length were = let c = seated.count in omega (arith, c, length-map known body) in
      ap (map body) seated.blocks
      ∙ map-append body kept_blocks fresh
      ∙ ap (λ (l : List (List ℕ)). l ++ map body fresh) (sym (take-map body n known))
      ∙ ap (λ (l : List (List ℕ)). take n were ++ l) (zeros-map bytes fresh seated.zeros)
      ∙ ap (λ (k : ℕ). take n were ++ replicate k zeros) more
      ∙ sym (take-padded zeros n n were (omega arith))
      ∙ ap (λ (l : List ℕ). cut (map body l)) (sym seated.had)

  -- what is known of the blocks that the row had
  pub record AreOwn : Type 0 where
    pub once : AreDistinct known
    pub there : All (IsFileBlock s.tables) known
    pub free : All (IsNoneOf (blocks_in (others file.slot s.rows))) known

  module _ (own : AreOwn) where
    new-apart : All (IsNoneOf known) fresh
    new-apart =
        let Known : List ℕ → Type 0 = λ l. All (IsNoneOf l) fresh in
        subst Known seated.had
        (All-weaker (IsNew s) (IsNoneOf (row_blocks (row_at s file.slot))) (λ b new. (of-row (λ other. other ≢ b) s file.slot within new.none).0)
        fresh seated.new)

    kept-apart : All (IsNoneOf fresh) kept_blocks
    kept-apart = All-take (IsNoneOf fresh) n known (apart-back known fresh new-apart)

    new-free : All (IsNoneOf (blocks_in (others file.slot s.rows))) fresh
    new-free = All-weaker (IsNew s) (IsNoneOf (blocks_in (others file.slot s.rows))) (λ b new. (of-row (λ other. other ≢ b) s file.slot within
        new.none).1) fresh seated.new

    blocks-distinct : AreDistinct file.blocks
    blocks-distinct = subst AreDistinct (sym seated.blocks) (distinct-append kept_blocks fresh (distinct-take n known own.once) seated.distinct kept-apart)

    -- what holds of the blocks that stay and of the new ones holds of all
    pub each-block : (P : ℕ → Type 0) → All P known → All P fresh → All P file.blocks
    each-block P a b = All-same P file.blocks (kept_blocks ++ fresh) seated.blocks (All-append P kept_blocks fresh (All-take P n known a) b)

    blocks-there : All (IsFileBlock s.tables) file.blocks
    blocks-there = each-block (IsFileBlock s.tables) own.there (All-weaker (IsNew s) (IsFileBlock s.tables) (λ b new. new.there) fresh seated.new)

    blocks-free : All (IsNoneOf (blocks_in (others file.slot s.rows))) file.blocks
    blocks-free = each-block (IsNoneOf (blocks_in (others file.slot s.rows))) own.free new-free

    pub blocks-held : All (IsHeld (length bytes)) file.blocks
    blocks-held =
        let all = (of-row (IsHeld (length bytes)) s file.slot within (whole-bodies bytes s stands)).0 in
        let Held : List ℕ → Type 0 = λ l. All (IsHeld (length bytes)) l in
        each-block (IsHeld (length bytes)) (subst Held seated.had all) (All-weaker (HasZeros bytes) (IsHeld (length bytes)) (λ b has. zeros-held bytes
        b has) fresh seated.zeros)

    -- the blocks of the others and its own are those of all files with this one
    few-blocks : kept_at bytes (with_placed s file.slot (Some file)) ≡ with_files (kept_at bytes s) (with_file (row_for file) (kept_at bytes s).files)
        → blocks_in_all (with_file (row_for file) (kept_at bytes s).files) ≤ 16384 → length (blocks_in (others file.slot s.rows)) + n ≤ 16384
    unfolding with_files
    few-blocks kept few =
        let t = with_placed s file.slot (Some file) in
        let e = ap (λ (k : Kept). blocks_in_all k.files) kept in
        let front = blocks_in (take file.slot s.rows) in
        let rest = blocks_in (drop (suc file.slot) s.rows) in
        omega (
          arith,
          few,
          e,
          blocks-together bytes t,
          ap length (blocks-with s file.slot (Some file) within),
          ap length (blocks-others s file.slot),
          length-append front (file.blocks ++ rest),
          length-append file.blocks rest,
          length-append front rest,
        )

    -- what a file's row has to be, that it can stand
    pub record IsRight : Type 0 where
      pub from_one : 1 ≤ file.id
      pub below_next : file.id < s.heads.next
      pub few_ids : file.id < 2 ^ 32
      pub name : IsName file.name
      pub rev : file.rev < 2 ^ 61
      pub some : 1 ≤ n
      pub short : n ≤ 1024
      pub apart : All (IsApartFrom file) (others file.slot s.rows)
      pub kept : kept_at bytes (with_placed s file.slot (Some file)) ≡ with_files (kept_at bytes s) (with_file (row_for file) (kept_at bytes s).files)
      pub few : blocks_in_all (with_file (row_for file) (kept_at bytes s).files) ≤ 16384

    pub can-stand : IsRight → CanStand s file
    can-stand right = record {
      row = seated.row;
      from_one = right.from_one;
      below_next = right.below_next;
      few_ids = right.few_ids;
      name = right.name;
      rev = right.rev;
      some = right.some;
      short = right.short;
      few = few-blocks right.kept right.few;
      apart = right.apart;
      distinct = blocks-distinct;
      there = blocks-there;
      free = blocks-free;
    }

    -- the three ranges leave the bodies of the file
    bodies-stay : (can : CanStand s file) → All (λ block. body_in (with_file_written s file bytes) block ≡ body_in bytes block) file.blocks
    bodies-stay can = λ k d lt.
        file-leaves bytes s stands file can (get_or file.blocks k d) (blocks-held k d lt) (can.there k d lt)

    has-bodies-then : CanStand s file → HasBodies s file bytes (with_file_written s file bytes)
    has-bodies-then can = map-same (body_in (with_file_written s file bytes)) (body_in bytes) file.blocks (bodies-stay can) ∙ has-bodies

    -- ---- what the image becomes

    pub record IsFiled (new : List ℕ) : Type 0 where
      pub stood : Stands new (with_placed s file.slot (Some file))
      pub kept : kept_at new (with_placed s file.slot (Some file)) ≡ with_files (kept_at bytes s) (with_file (row_for file) (kept_at bytes s).files)
      pub no_shorter : length bytes ≤ length new

    pub new-filed : CanStand s file → row_at s file.slot ≡ None → All (λ f. f.id < file.id) (files_in s) → IsFiled (with_file_written s file bytes)
    new-filed can is last =
        let w = file-written bytes s stands file can blocks-held in
        record {
          stood = file-stands s file bytes (with_file_written s file bytes) stands can w;
          kept = new-file-kept s file bytes (with_file_written s file bytes) stands can is last (has-bodies-then can) w;
          no_shorter = w.no_shorter;
        }

    pub same-filed : CanStand s file → (was : PlacedFile) → row_at s file.slot ≡ Some was → was.id ≡ file.id → IsFiled (with_file_written s file bytes)
    same-filed can was is same =
        let w = file-written bytes s stands file can blocks-held in
        record {
          stood = file-stands s file bytes (with_file_written s file bytes) stands can w;
          kept = same-file-kept s was file bytes (with_file_written s file bytes) stands can is same (has-bodies-then can) w.bodies;
          no_shorter = w.no_shorter;
        }

    -- a file that keeps its blocks
    pub row-filed : CanStand s file → (was : PlacedFile) → row_at s file.slot ≡ Some was → was.id ≡ file.id → file.blocks ≡ was.blocks
        → IsFiled (overwritten (2112 + 96 * file.slot) (row_bytes file.name n file.rev) bytes)
    row-filed can was is same same_blocks =
        let part = row_bytes file.name n file.rev in
        let new = overwritten (2112 + 96 * file.slot) part bytes in
        let size = length-row file.name n file.rev can.name can.short can.rev in
        let lt = can.row in
        let agree = rows-written bytes s stands (2112 + 96 * file.slot) part (omega (arith, lt, size)) in
        let Same : ℕ → Type 0 = λ block. body_in new block ≡ body_in bytes block in
        let parts = of-row Same s file.slot within agree.blocks.bodies in
        let own_are : row_blocks (row_at s file.slot) ≡ file.blocks = ap row_blocks is ∙ sym same_blocks in
        let own = All-same Same file.blocks (row_blocks (row_at s file.slot)) (sym own_are) parts.0 in
        record {
          stood = row-stands s was file bytes new stands can is (sym same) same_blocks agree;
          kept = same-file-kept s was file bytes new stands can is same (map-same (body_in new) (body_in bytes) file.blocks own ∙ has-bodies) parts.1;
          no_shorter = agree.blocks.no_shorter;
        }
