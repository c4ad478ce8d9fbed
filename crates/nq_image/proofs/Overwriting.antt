-- Ranges that are written to an image: what the new bytes have, and where they agree with the old ones.
use Rattle.std.proofs.Common.{◌≡◌, ◌≢◌, ◌≤◌, ◌<◌, ◌+◌, ◌-◌, ◌*◌, ◌⊎◌, inl, inr, ℕ, true, false, List, [], ◌∷◌, length, get_or, refl, sym, ap, ◌∙◌}
use Rattle.std.proofs.Common.{arith, length-append}
use Rattle.std.specs.List.{All, Contains}
use Rattle.std.specs.Int.{w32, to_be_bytes}
use Rattle.std.specs.Prelude.{nat_le, nat_lt}
use Rattle.std.proofs.lemmas.Bool.{cases_lt}
use Rattle.std.proofs.lemmas.List.Elements.{All-contains_itself, All-weaker}
use Rattle.nq_image.specs.Kept.{body_in}
use Rattle.nq_image.specs.Layout.{block_place}
use Rattle.nq_image.specs.Standing.{Agree, AgreeBut, CanStand, HaveSameBlocks, IsBodyWritten, IsFileBlock, IsFileWritten, IsFree, IsInBlock}
use Rattle.nq_image.specs.Standing.{IsRowCleared, IsUsed, PlacedFile, Standing, Stands, blocks_in, found_of, id_place, others, overwritten, row_place}
use Rattle.nq_image.specs.Standing.{rows_of_image, with_file_written, with_row_cleared}
use Rattle.nq_image.specs.Tables.{is_of_tables}
use Rattle.nq_image.specs.Writing.{entries_of, row_bytes, table_of_blocks, zeros_of}
use Rattle.nq_image.proofs.GivenBlocks.{both-of}
use Rattle.nq_image.proofs.FileRows.{length-row}
use Rattle.nq_image.proofs.Giving.{IsHeld}
use Rattle.nq_image.proofs.Parting.{parts-of}
use Rattle.nq_image.proofs.Pieces.{length-over, length-written, piece-around, piece-beside, piece-same, piece-written}
use Rattle.nq_image.proofs.ReadBack.{and-two, le-true, length-zeros, lt-true}
use Rattle.nq_image.proofs.Replacing.{held-all, other-held}

-- ---- blocks beside one another

pub apart-blocks : (a b : ℕ) → a ≢ b → (block_place a + 4096 ≤ block_place b) ⊎ (block_place b + 4096 ≤ block_place a)
apart-blocks a b ne = elim (cases_lt a b) [
  | inl lt ↦ inl (omega (arith, lt))
  | inr le ↦ let lt : b < a = omega (arith, le, ne) in inr (omega (arith, lt))
]

pub of-tables : (tables n block : ℕ) → n < 257 → tables + n ≡ block → is_of_tables tables block ≡ true
of-tables tables n block lt is = and-two (nat_le tables block) (nat_lt block (tables + 257)) (le-true tables tables block refl (omega (arith, is)))
    (lt-true block block (tables + 257) refl (omega (arith, lt, is)))

pub not-tables : (tables n block : ℕ) → n < 257 → is_of_tables tables block ≡ false → tables + n ≢ block
not-tables tables n block lt apart is = let there = of-tables tables n block lt is in cc

-- a block beside one that is written
pub block-beside : (a b : ℕ) (part bytes : List ℕ) → a ≢ b → length part ≡ 4096 → block_place b ≤ length bytes → block_place a + 4096 ≤ length bytes
    → body_in (overwritten (block_place b) part bytes) a ≡ body_in bytes a
block-beside a b part bytes ne long begins whole = by (apart-blocks a b ne)
  where
    by : (block_place a + 4096 ≤ block_place b) ⊎ (block_place b + 4096 ≤ block_place a) → body_in (overwritten (block_place b) part bytes) a ≡ body_in bytes a
    by (inl before) = piece-beside (block_place a) 4096 (block_place b) part bytes begins whole (inl before)
    by (inr after) = piece-beside (block_place a) 4096 (block_place b) part bytes begins whole (inr (omega (arith, after, long)))

-- a block behind a part that ends before the blocks
pub block-behind : (a place : ℕ) (part bytes : List ℕ) → place + length part ≤ 40960 → 40960 ≤ length bytes → block_place a + 4096 ≤ length bytes
    → body_in (overwritten place part bytes) a ≡ body_in bytes a
block-behind a place part bytes fits long whole = piece-beside (block_place a) 4096 place part bytes (omega (arith, fits, long)) whole
    (inr (omega (arith, fits)))

-- ---- a table

length-entries : (blocks : List ℕ) → length (entries_of blocks) ≡ 4 * length blocks
unfolding entries_of
length-entries [] = refl
length-entries (block ∷ blocks) = omega (arith, length-entries blocks)

pub length-of-table : (blocks : List ℕ) → length blocks ≤ 1024 → length (table_of_blocks blocks) ≡ 4096
unfolding table_of_blocks
length-of-table blocks short = omega (
  arith,
  short,
  length-entries blocks,
  length-zeros (4096 - 4 * length blocks),
  length-append (entries_of blocks)
      (zeros_of (4096 - 4 * length blocks)),
)

-- ---- one range

module _ (bytes : List ℕ) (s : Standing) (stands : Stands bytes s) where
  pub long-enough : 40960 ≤ length bytes
  long-enough = let image = parts-of bytes (found_of s) stands.found in image.begins.long

  pub whole-tables : (n : ℕ) → n < 257 → block_place (s.tables + n) + 4096 ≤ length bytes
  whole-tables n lt = let image = parts-of bytes (found_of s) stands.found in let whole = image.parts.ids_whole in omega (arith, whole, lt)

  pub whole-bodies : All (IsHeld (length bytes)) (blocks_in s.rows)
  whole-bodies = let image = parts-of bytes (found_of s) stands.found in held-all s bytes image.parts

  module _ (place : ℕ) (part : List ℕ) where
    blocks-same : place + length part ≤ 40960 → HaveSameBlocks s bytes (overwritten place part bytes)
    blocks-same fits = record {
      no_shorter = omega (arith, long-enough, fits, length-written place part bytes (omega (arith, long-enough, fits)));
      tables = λ n lt. block-behind (s.tables + n) place part bytes fits long-enough (whole-tables n lt);
      bodies = All-weaker (IsHeld (length bytes)) (λ block. body_in (overwritten place part bytes) block ≡ body_in bytes block) (λ block whole.
          block-behind block place part bytes fits long-enough whole) (blocks_in s.rows) whole-bodies;
    }

    pub rows-written : place + length part ≤ 28672 → AgreeBut place part s bytes (overwritten place part bytes)
    rows-written fits =
        let e : place - 0 ≡ place = omega arith in
        record {
          rows = piece-around 0 28672 place part bytes (omega (arith, long-enough)) (omega arith) (omega (arith, fits))
              ∙ ap (λ (p : ℕ). overwritten p part (rows_of_image bytes)) e;
          blocks = blocks-same (omega (arith, fits));
        }

    pub record-written : 28672 ≤ place → place + length part ≤ 40960 → Agree s bytes (overwritten place part bytes)
    record-written begins fits = record {
      rows = piece-beside 0 28672 place part bytes (omega (arith, long-enough, fits)) (omega (arith, long-enough)) (inl begins);
      blocks = blocks-same fits;
    }

  module _ (block : ℕ) (part : List ℕ) (long : length part ≡ 4096) (begins : block_place block ≤ length bytes) where
    rows-stay : rows_of_image (overwritten (block_place block) part bytes) ≡ rows_of_image bytes
    rows-stay = piece-beside 0 28672 (block_place block) part bytes begins (omega (arith, long-enough)) (inl (omega arith))

    tables-stay : is_of_tables s.tables block ≡ false → (n : ℕ) → n < 257 → body_in (overwritten (block_place block) part bytes) (s.tables + n)
        ≡ body_in bytes (s.tables + n)
    tables-stay apart n lt = block-beside (s.tables + n) block part bytes (not-tables s.tables n block lt apart) long begins (whole-tables n lt)

    no-shorter : length bytes ≤ length (overwritten (block_place block) part bytes)
    no-shorter = omega (arith, length-written (block_place block) part bytes begins)

    pub free-written : IsFree s block → Agree s bytes (overwritten (block_place block) part bytes)
    free-written free = record {
      rows = rows-stay;
      blocks = record {
        no_shorter = no-shorter;
        tables = tables-stay free.apart;
        bodies = both-of (IsHeld (length bytes)) (λ other. other ≢ block) (λ other. body_in (overwritten (block_place block) part bytes) other
            ≡ body_in bytes other) (blocks_in s.rows) (λ other whole ne. block-beside other block part bytes ne long begins whole) whole-bodies free.none;
      };
    }

    pub body-written : is_of_tables s.tables block ≡ false → IsBodyWritten s block part bytes (overwritten (block_place block) part bytes)
    body-written apart = record {
      no_shorter = no-shorter;
      rows = rows-stay;
      tables = tables-stay apart;
      body = piece-written (block_place block) 4096 part bytes begins long;
      bodies = All-weaker (IsHeld (length bytes)) (λ other. other ≢ block → body_in (overwritten (block_place block) part bytes) other ≡ body_in bytes
          other) (λ other whole ne. block-beside other block part bytes ne long begins whole) (blocks_in s.rows) whole-bodies;
    }

  -- ---- a row and its id

  module _ (slot : ℕ) (lt : slot < 256) (row id : List ℕ) (row_long : length row ≡ 96) (id_long : length id ≡ 4) where
    abbrev one : List ℕ
    one = overwritten (row_place slot) row bytes

    abbrev two : List ℕ
    two = overwritten (id_place s.tables slot) id one

    ids-whole : block_place (s.tables + 256) + 4096 ≤ length bytes
    ids-whole = whole-tables 256 (omega arith)

    length-one : length one ≡ length bytes
    length-one = length-over (row_place slot) row bytes (omega (arith, lt, row_long, long-enough))

    length-two : length two ≡ length bytes
    length-two = length-over (id_place s.tables slot) id one (omega (arith, lt, id_long, ids-whole, length-one)) ∙ length-one

    two-row : rows_of_image two ≡ overwritten (row_place slot) row (rows_of_image bytes)
    two-row =
        let a = rows-written (row_place slot) row (omega (arith, lt, row_long)) in
        piece-beside 0 28672 (id_place s.tables slot) id one (omega (arith, lt, ids-whole, length-one)) (omega (arith, long-enough, length-one))
        (inl (omega arith)) ∙ a.rows

    two-block : (block : ℕ) → block ≢ s.tables + 256 → block_place block + 4096 ≤ length bytes → body_in two block ≡ body_in bytes block
    two-block block ne whole =
        beside-id block ne (omega (arith, whole, length-one))
        ∙ block-behind block (row_place slot) row bytes (omega (arith, lt, row_long)) long-enough whole
      where
        beside-id : (block : ℕ) → block ≢ s.tables + 256 → block_place block + 4096 ≤ length one → body_in two block ≡ body_in one block
        beside-id block ne whole = elim (apart-blocks block (s.tables + 256) ne) [
          | inl before ↦ piece-beside (block_place block) 4096 (id_place s.tables slot) id one (omega (arith, lt, ids-whole, length-one)) whole
              (inl (omega (arith, before)))
          | inr after ↦ piece-beside (block_place block) 4096 (id_place s.tables slot) id one (omega (arith, lt, ids-whole, length-one)) whole
              (inr (omega (arith, after, lt, id_long)))
        ]

    two-id : body_in two (s.tables + 256) ≡ overwritten (4 * slot) id (body_in bytes (s.tables + 256))
    two-id =
        let at = block_place (s.tables + 256) in
        let e : id_place s.tables slot - at ≡ 4 * slot = omega arith in
        piece-around at 4096 (id_place s.tables slot) id one (omega (arith, ids-whole, length-one)) (omega arith) (omega (arith, lt, id_long))
        ∙ ap (λ (p : ℕ). overwritten p id (body_in one (s.tables + 256))) e
        ∙ ap (λ (b : List ℕ). overwritten (4 * slot) id b) (block-behind (s.tables + 256) (row_place slot) row bytes (omega (arith, lt, row_long))
        long-enough ids-whole)

    -- the blocks of the other files are none of the tables'
    other-blocks : All (λ block. IsHeld (length bytes) block × IsFileBlock s.tables block) (blocks_in (others slot s.rows))
    other-blocks = let image = parts-of bytes (found_of s) stands.found in other-held s bytes slot image.parts

    not-256 : (n : ℕ) → n < 256 → s.tables + n ≢ s.tables + 256
    not-256 n below = omega (arith, below)

    own-tables : (block : ℕ) → IsFileBlock s.tables block → block ≢ s.tables + 256
    own-tables block own = λ e. not-tables s.tables 256 block (omega arith) own.apart (sym e)

  pub row-cleared : (slot : ℕ) → slot < 256 → IsRowCleared s slot bytes (with_row_cleared s slot bytes)
  row-cleared slot lt =
      let row = zeros_of 96 in
      let id = zeros_of 4 in
      let row_long = length-zeros 96 in
      let id_long = length-zeros 4 in
      record {
        no_shorter = omega (arith, length-two slot lt row id row_long id_long);
        row = two-row slot lt row id row_long id_long;
        tables = λ n below ne. two-block slot lt row id row_long id_long (s.tables + n) (not-256 slot lt row id row_long id_long n below)
            (whole-tables n (omega (arith, below)));
        id = two-id slot lt row id row_long id_long;
        bodies = All-weaker (λ block. IsHeld (length bytes) block × IsFileBlock s.tables block) (λ block. body_in (with_row_cleared s slot bytes)
            block ≡ body_in bytes block)
            (λ block both. two-block slot lt row id row_long id_long block (own-tables slot lt row id row_long id_long block both.1) both.0)
            (blocks_in (others slot s.rows)) (other-blocks slot lt row id row_long id_long);
      }

  -- a block of a file stays as it is where another file's row, id and table are written
  pub file-leaves : (file : PlacedFile) → CanStand s file → (block : ℕ) → IsHeld (length bytes) block → IsFileBlock s.tables block
      → body_in (with_file_written s file bytes) block ≡ body_in bytes block
  file-leaves file can block whole own =
      let slot = file.slot in
      let lt = can.row in
      let row = row_bytes file.name (length file.blocks) file.rev in
      let id = to_be_bytes w32 file.id in
      let row_long = length-row file.name (length file.blocks) file.rev can.name can.short can.rev in
      let id_long : length id ≡ 4 = refl in
      let before = two slot lt row id row_long id_long in
      let same = length-two slot lt row id row_long id_long in
      let table_whole = whole-tables slot (omega (arith, lt)) in
      block-beside block (s.tables + slot) (table_of_blocks file.blocks) before (λ e. not-tables s.tables slot block (omega (arith, lt)) own.apart
      (sym e)) (length-of-table file.blocks can.short) (omega (arith, table_whole, same)) (omega (arith, whole, same))
      ∙ two-block slot lt row id row_long id_long block (own-tables slot lt row id row_long id_long block own) whole

  pub file-written : (file : PlacedFile) → CanStand s file → All (IsHeld (length bytes)) file.blocks → IsFileWritten s file bytes
      (with_file_written s file bytes)
  file-written file can whole =
      let slot = file.slot in
      let lt = can.row in
      let row = row_bytes file.name (length file.blocks) file.rev in
      let id = to_be_bytes w32 file.id in
      let row_long = length-row file.name (length file.blocks) file.rev can.name can.short can.rev in
      let id_long : length id ≡ 4 = refl in
      let table = table_of_blocks file.blocks in
      let long = length-of-table file.blocks can.short in
      let before = two slot lt row id row_long id_long in
      let same = length-two slot lt row id row_long id_long in
      let at = s.tables + slot in
      let table_whole = whole-tables slot (omega (arith, lt)) in
      let begins : block_place at ≤ length before = omega (arith, table_whole, same) in
      let after = length-over (block_place at) table before (omega (arith, table_whole, same, long)) in
      let ids = whole-tables 256 (omega arith) in
      record {
        no_shorter = omega (arith, after, same);
        row = piece-beside 0 28672 (block_place at) table before begins (omega (arith, long-enough, same)) (inl (omega arith)) ∙ two-row slot lt row
            id row_long id_long;
        table = piece-written (block_place at) 4096 table before begins long;
        tables = λ n below ne. block-beside (s.tables + n) at table before (omega (arith, ne)) long begins
            (let w = whole-tables n (omega (arith, below)) in omega (arith, w, same))
            ∙ two-block slot lt row id row_long id_long (s.tables + n) (not-256 slot lt row id row_long id_long n below)
            (whole-tables n (omega (arith, below)));
        id = block-beside (s.tables + 256) at table before (omega (arith, lt)) long begins (omega (arith, ids, same)) ∙ two-id slot lt row id row_long id_long;
        bodies = All-weaker (λ block. IsHeld (length bytes) block × IsFileBlock s.tables block) (λ block. body_in (with_file_written s file bytes)
            block ≡ body_in bytes block)
            (λ block both. file-leaves file can block both.0 both.1)
            (blocks_in (others slot s.rows)) (other-blocks slot lt row id row_long id_long);
        whole = All-weaker (IsHeld (length bytes)) (λ block. block_place block + 4096 ≤ length (with_file_written s file bytes))
            (λ block w. omega (arith, w, after, same)) file.blocks whole;
      }

  -- ---- bytes that agree, one by one

  pub bytes-agree : (new : List ℕ) → length bytes ≤ length new → ((place : ℕ) → place < length bytes → IsUsed s place → get_or new place 0
      ≡ get_or bytes place 0) → Agree s bytes new
  bytes-agree new longer same = record {
    rows = piece-same 0 28672 new bytes (omega (arith, long-enough, longer)) (omega (arith, long-enough)) (λ k lt. first k lt);
    blocks = record {
      no_shorter = longer;
      tables = λ n lt. block-same (s.tables + n) (whole-tables n lt) (λ place here. inr (inl (n, lt, here)));
      bodies = both-of (Contains (blocks_in s.rows)) (IsHeld (length bytes)) (λ block. body_in new block ≡ body_in bytes block) (blocks_in s.rows)
          (λ block has whole. block-same block whole (λ place here. inr (inr (block, has, here)))) (All-contains_itself (blocks_in s.rows)) whole-bodies;
    };
  }
    where
      first : (k : ℕ) → k < 28672 → get_or new (0 + k) 0 ≡ get_or bytes (0 + k) 0
      first k lt = same (0 + k) (omega (arith, lt, long-enough)) (inl (omega (arith, lt)))

      block-same : (block : ℕ) → IsHeld (length bytes) block → ((place : ℕ) → IsInBlock block place → IsUsed s place) → body_in new block ≡ body_in bytes block
      block-same block whole used =
          piece-same (block_place block) 4096 new bytes (omega (arith, whole, longer)) whole
          (λ k lt. same (block_place block + k) (omega (arith, lt, whole)) (used (block_place block + k) (omega arith, omega (arith, lt))))
