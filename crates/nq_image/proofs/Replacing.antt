-- Another file in a row, or none: the image is one still.
use Rattle.std.proofs.Common.{◌≡◌, ◌≤◌, ◌<◌, ◌^◌, ◌+◌, ◌-◌, ◌*◌, ◌⊎◌, inl, inr, ℕ, suc, true, false, List, [], ◌∷◌, ◌++◌, Option, Some, None, Ok}
use Rattle.std.proofs.Common.{take, drop, map, set, length, get_or, refl, sym, ap, subst, ◌∙◌, arith, length-append}
use Rattle.std.specs.List.{All, sum_by}
use Rattle.std.specs.Int.{w32, to_be_bytes}
use Rattle.std.proofs.lemmas.List.{append_assoc, drop-drop, drop_more, length-map, map-append, set_at, take-append-drop}
use Rattle.std.proofs.lemmas.List.Elements.{All-append, All-weaker}
use Rattle.std.proofs.lemmas.List.Sums.{sum_by-cons}
use Rattle.nq_base.specs.declared.Heads.{Heads}
use Rattle.nq_base.specs.declared.HostRow.{HostRow}
use Rattle.nq_image.specs.Heads.{front_checks, front_of}
use Rattle.nq_image.specs.Hosts.{hosts_checks, hosts_of}
use Rattle.nq_image.specs.Image.{no_marks}
use Rattle.nq_image.specs.Layout.{are_zeros, block_place, piece}
use Rattle.nq_image.specs.Rows.{blocks_of, row_checks, rows_checks, slot_of, slots_of}
use Rattle.nq_image.specs.Standing.{AreDistinct, IsFileBlock, IsNoneOf, PlacedFile, Standing, blocks_in, found_of, marks_with, others, overwritten}
use Rattle.nq_image.specs.Standing.{row_blocks, row_id, row_slot, rows_of_image}
use Rattle.nq_image.specs.Tables.{held, ids_checks, ids_of}
use Rattle.nq_image.specs.declared.rows.Slot.{Slot}
use Rattle.nq_image.specs.declared.rows.Version.{Version}
use Rattle.nq_image.proofs.Agreeing.{all-front, all-rest, begins-same, held-by}
use Rattle.nq_image.proofs.GivenBlocks.{AllGiven, AreGivenOnce, all-given, all-swap, both-of, distinct-swap}
use Rattle.nq_image.proofs.Allotting.{AreOthersSame, AreTablesAllotted}
use Rattle.nq_image.proofs.GivenBlocks.{each-given, given-if-once, once}
use Rattle.nq_image.proofs.Allotting.{tables-given, tables-marks-are, tables-over}
use Rattle.nq_image.proofs.Changing.{around, beside}
use Rattle.nq_image.proofs.Giving.{IsGiven, IsHeld, given-is-held}
use Rattle.nq_image.proofs.Imaging.{length-marks, no-marks}
use Rattle.nq_image.proofs.Numbering.{AllNewIds, IsNewId, IsOtherId, ids-join, ids-of-any, ids-over, ids-split, swap-ids}
use Rattle.nq_image.proofs.Parting.{BeginsAsTwo, HasParts}
use Rattle.nq_image.proofs.Pieces.{drop-past, length-piece}
use Rattle.nq_image.proofs.Rowing.{AllNew, IsApartRow, IsNewTo, rows-new, rows-over, slots-over, swap}
use Rattle.nq_image.proofs.ReadBack.{Hold}

-- ---- rows in two parts around one

pub blocks-append : (xs ys : List (Option PlacedFile)) → blocks_in (xs ++ ys) ≡ blocks_in xs ++ blocks_in ys
unfolding blocks_in
blocks-append [] ys = refl
blocks-append (x ∷ xs) ys =
    ap (λ (l : List ℕ). row_blocks x ++ l) (blocks-append xs ys) ∙ sym (append_assoc (row_blocks x) (blocks_in xs) (blocks_in ys))

pub blocks-around : (front rest : List (Option PlacedFile)) (row : Option PlacedFile) → blocks_in (front ++ row ∷ rest) ≡ blocks_in front
    ++ (row_blocks row ++ blocks_in rest)
unfolding blocks_in
blocks-around front rest row = blocks-append front (row ∷ rest)

length-own : (row : Option PlacedFile) → blocks_of (row_slot row) ≡ length (row_blocks row)
length-own None = refl
length-own (Some file) = refl

pub sum-blocks : (rows : List (Option PlacedFile)) → sum_by blocks_of (map row_slot rows) ≡ length (blocks_in rows)
unfolding blocks_in
sum-blocks [] = refl
sum-blocks (row ∷ rows) =
    omega (arith, sum_by-cons blocks_of (row_slot row) (map row_slot rows), length-own row, sum-blocks rows, length-append (row_blocks row) (blocks_in rows))

pub around-row : (slot : ℕ) (rows : List (Option PlacedFile)) → slot < length rows → rows ≡ take slot rows ++ get_or rows slot None ∷ drop (suc slot) rows
around-row slot rows lt =
    let e : slot + 1 ≡ suc slot = omega arith in
    sym (take-append-drop slot rows)
    ∙ ap (λ (l : List (Option PlacedFile)). take slot rows ++ l) (drop_more rows slot None lt)
    ∙ ap (λ (n : ℕ). take slot rows ++ get_or rows slot None ∷ drop n rows) e

-- ---- what an image holds

pub all-once : (s : Standing) (bytes : List ℕ) → HasParts bytes (found_of s) → AreGivenOnce s.tables (no_marks 16641) (blocks_in s.rows)
all-once s bytes p =
    let Given : List ℕ → Type 0 = λ l. AllGiven s.tables (no_marks 16641) l in
    once s.tables (no_marks 16641) (blocks_in s.rows) (length-marks 16641)
    (subst Given p.blocks_are (tables-given s.tables (block_place s.tables) s.rows (no_marks 16641) bytes p.tables))

pub held-all : (s : Standing) (bytes : List ℕ) → HasParts bytes (found_of s) → All (IsHeld (length bytes)) (blocks_in s.rows)
held-all s bytes p =
    let blocks = blocks_in s.rows in
    let marks = marks_with (no_marks 16641) blocks in
    let each = all-once s bytes p in
    let Below : ℕ → Type 0 = λ n. All (λ b. b < n) blocks in
    let below = subst Below (sym (length-marks 16641)) (All-weaker (IsFileBlock s.tables) (λ b. b < 16641) (λ b own. own.below) blocks each.there) in
    let given = all-given (no_marks 16641) blocks below in
    All-weaker (IsGiven marks) (IsHeld (length bytes)) (λ block own. given-is-held (length bytes) marks block p.held_all own) blocks given

behind-first : (P : ℕ → Type 0) (row : Option PlacedFile) (rows : List (Option PlacedFile)) → All P (blocks_in (row ∷ rows)) → All P (blocks_in rows)
unfolding blocks_in
behind-first P row rows all = all-rest P (row_blocks row) (blocks_in rows) all

-- what is known of each block of the other rows
pub other-held : (s : Standing) (bytes : List ℕ) (slot : ℕ) → HasParts bytes (found_of s) → All (λ block. IsHeld (length bytes) block
    × IsFileBlock s.tables block) (blocks_in (others slot s.rows))
other-held s bytes slot p =
    let Both : ℕ → Type 0 = λ block. IsHeld (length bytes) block × IsFileBlock s.tables block in
    let all = both-of (IsHeld (length bytes)) (IsFileBlock s.tables) Both (blocks_in s.rows) (λ block a c. (a, c)) (held-all s bytes p)
    (all-once s bytes p).there in
    let front = take slot s.rows in
    let Blocks : List ℕ → Type 0 = λ l. All Both l in
    let parted = subst Blocks (ap blocks_in (sym (take-append-drop slot s.rows)) ∙ blocks-append front (drop slot s.rows)) all in
    let rest = all-rest Both (blocks_in front) (blocks_in (drop slot s.rows)) parted in
    subst Blocks (sym (blocks-append front (drop (suc slot) s.rows)))
    (All-append Both (blocks_in front) (blocks_in (drop (suc slot) s.rows)) (all-front Both (blocks_in front) (blocks_in (drop slot s.rows)) parted)
    (one-less Both (drop slot s.rows) (drop (suc slot) s.rows) (drop-again slot s.rows) rest))
  where
    drop-again : (n : ℕ) (rows : List (Option PlacedFile)) → drop (suc n) rows ≡ drop 1 (drop n rows)
    drop-again n rows = let e : n + 1 ≡ suc n = omega arith in sym (drop-drop 1 n rows ∙ ap (λ (k : ℕ). drop k rows) e)

    one-less : (P : ℕ → Type 0) (rows more : List (Option PlacedFile)) → more ≡ drop 1 rows → All P (blocks_in rows) → All P (blocks_in more)
    one-less P [] more is all = let Rows : List (Option PlacedFile) → Type 0 = λ l. All P (blocks_in l) in subst Rows (sym is) all
    one-less P (row ∷ rows) more is all = let Rows : List (Option PlacedFile) → Type 0 = λ l. All P (blocks_in l) in
        subst Rows (sym is) (behind-first P row rows all)

-- ---- one row becomes another

-- a row can stand between others
pub record CanStandBetween (next tables : ℕ) (front rest : List (Option PlacedFile)) (row : Option PlacedFile) : Type 0 where
  pub own_id : IsNewId next (map row_id front) row
  pub other_ids : All (IsOtherId (row_id row)) rest
  pub own_name : IsNewTo (map row_slot front) (row_slot row)
  pub other_names : All (IsApartRow (row_slot row)) (map row_slot rest)
  pub few : length (blocks_in front) + length (row_blocks row) + length (blocks_in rest) ≤ 16384
  pub few_ids : row_id row < 2 ^ 32
  pub there : All (IsFileBlock tables) (row_blocks row)
  pub distinct : AreDistinct (row_blocks row)
  pub free : All (IsNoneOf (blocks_in front ++ blocks_in rest)) (row_blocks row)

-- the bytes of a row are such that it is read, and right behind rows to which it is new
pub record IsSpelled (row : Option PlacedFile) (part : List ℕ) : Type 0 where
  pub size : length part ≡ 96
  pub is : slot_of part ≡ row_slot row
  pub own : (place : ℕ) (before : List (Option Slot)) → IsNewTo before (row_slot row) → Hold (row_checks Version.Two place before part)

module _ (heads : Heads) (tables : ℕ) (hosts : List HostRow) (front rest : List (Option PlacedFile)) (one two : Option PlacedFile) where
  abbrev standing : Option PlacedFile → Standing
  standing row = record { heads = heads; tables = tables; hosts = hosts; rows = front ++ row ∷ rest }

  abbrev slot : ℕ
  slot = length front

  abbrev place : ℕ
  place = block_place tables

  names-before : (row : Option PlacedFile) → map row_slot (front ++ row ∷ rest) ≡ map row_slot front ++ row_slot row ∷ map row_slot rest
  names-before row = map-append row_slot front (row ∷ rest)

  -- the id of the row is written
  module _ (old new : List ℕ) (all : length (front ++ one ∷ rest) ≡ 256) (few_ids : row_id two < 2 ^ 32) (p : HasParts old (found_of (standing one)))
      (is : piece (place + 1048576) 4096 new ≡ overwritten (4 * slot) (to_be_bytes w32 (row_id two)) (piece (place + 1048576) 4096 old)) where
    abbrev id_block : List ℕ
    id_block = piece (place + 1048576) 4096 old

    id-here : slot < 256
    id-here = omega (arith, all, length-append front (one ∷ rest))

    id-count : length (front ++ two ∷ rest) ≡ 256
    id-count = omega (arith, all, length-append front (one ∷ rest), length-append front (two ∷ rest))

    id-long : length id_block ≡ 4096
    id-long = let whole = p.ids_whole in length-piece (place + 1048576) 4096 old (omega (arith, whole))

    id-part : length (to_be_bytes w32 (row_id two)) ≡ 4
    id-part = refl

    pub ids-written : ids_of (map row_slot (front ++ two ∷ rest)) (piece (place + 1048576) 4096 new) ≡ map row_id (front ++ two ∷ rest)
    ids-written =
        let slots = map row_slot (front ++ two ∷ rest) in
        let old_slots = map row_slot (front ++ one ∷ rest) in
        let many = length-map (front ++ two ∷ rest) row_slot in
        let same_many : length slots ≡ length old_slots = omega (arith, many, length-map (front ++ one ∷ rest) row_slot, id-count, all) in
        ap (λ (l : List ℕ). ids_of slots l) is
        ∙ ids-over slots slot (4 * slot) (row_id two) id_block refl (omega (arith, many, id-count, id-here)) (omega (arith, many, id-count, id-long)) few_ids
        ∙ ap (λ (l : List ℕ). set l slot (row_id two)) (ids-of-any slots old_slots id_block same_many ∙ p.ids_are ∙ map-append row_id front (one ∷ rest))
        ∙ set_at (map row_id front) (row_id one) (map row_id rest) (row_id two) slot (length-map front row_id)
        ∙ sym (map-append row_id front (two ∷ rest))

    old-zeros : are_zeros (drop (4 * 256) id_block) ≡ true
    old-zeros =
        let s = ids-split (front ++ one ∷ rest) heads.next (place + 1048576) [] id_block p.ids_are p.ids in
        let Zeros : ℕ → Type 0 = λ n. are_zeros (drop (4 * n) id_block) ≡ true in
        subst Zeros all s.zeros

    behind-part : drop 1024 (overwritten (4 * slot) (to_be_bytes w32 (row_id two)) id_block) ≡ drop 1024 id_block
    behind-part = drop-past 1024 (4 * slot) (to_be_bytes w32 (row_id two)) id_block (omega (arith, id-here, id-part))
        (omega (arith, id-here, id-part, id-long))

    pub ids-behind : are_zeros (drop (4 * length (front ++ two ∷ rest)) (piece (place + 1048576) 4096 new)) ≡ true
    ids-behind =
        let Zeros : List ℕ → Type 0 = λ l. are_zeros l ≡ true in
        let Count : ℕ → Type 0 = λ n. are_zeros (drop (4 * n) (piece (place + 1048576) 4096 new)) ≡ true in
        subst Count (sym id-count) (subst Zeros (sym (ap (λ (l : List ℕ). drop 1024 l) is ∙ behind-part)) old-zeros)

  -- what the new bytes have
  pub record IsBecome (part old new : List ℕ) : Type 0 where
    pub rows : rows_of_image new ≡ overwritten (2112 + 96 * slot) part (rows_of_image old)
    pub spelled : IsSpelled two part
    pub others_same : AreOthersSame tables place slot (length rest) one two old new
    pub ids_are : ids_of (map row_slot (front ++ two ∷ rest)) (piece (place + 1048576) 4096 new) ≡ map row_id (front ++ two ∷ rest)
    pub ids_zeros : are_zeros (drop (4 * length (front ++ two ∷ rest)) (piece (place + 1048576) 4096 new)) ≡ true
    pub held_own : All (IsHeld (length new)) (row_blocks two)

  module _ (part old new : List ℕ) (long : 40960 ≤ length old) (all : length (front ++ one ∷ rest) ≡ 256) (can : CanStandBetween heads.next tables
      front rest two) (b : IsBecome part old new) (p : HasParts old (found_of (standing one))) where
    abbrev table : List ℕ
    table = piece 2112 24576 old

    here : slot < 256
    here = omega (arith, all, length-append front (one ∷ rest))

    longer : length old ≤ length new
    longer = let o = b.others_same in o.no_shorter

    fits : 2112 + 96 * slot + length part ≤ 28672
    fits = let s = b.spelled.size in omega (arith, s, here)

    side : (from size : ℕ) → from + size ≤ 28672 → (from + size ≤ 2112 + 96 * slot) ⊎ (2112 + 96 * slot + length part ≤ from) → piece from size new
        ≡ piece from size old
    side = beside (2112 + 96 * slot) part old new long fits b.rows

    front-same : piece 0 64 new ≡ piece 0 64 old
    front-same = side 0 64 (omega arith) (inl (omega arith))

    hosts-same : piece 64 2048 new ≡ piece 64 2048 old
    hosts-same = side 64 2048 (omega arith) (inl (omega arith))

    gap-same : piece 26688 1984 new ≡ piece 26688 1984 old
    gap-same = let s = b.spelled.size in side 26688 1984 (omega arith) (inr (omega (arith, s, here)))

    rows-there : piece 2112 24576 new ≡ overwritten (2112 + 96 * slot - 2112) part table
    rows-there = let s = b.spelled.size in around (2112 + 96 * slot) part old new long fits b.rows 2112 24576 (omega arith) (omega arith)
        (omega (arith, s, here))

    at-is : 2112 + 96 * slot - 2112 ≡ 96 * slot
    at-is = omega arith

    table-long : length table ≡ 96 * 256
    table-long = length-piece 2112 24576 old (omega (arith, long))

    -- ---- the rows

    set-names : set (slots_of 256 table) slot (row_slot two) ≡ map row_slot (front ++ two ∷ rest)
    set-names =
        ap (λ (l : List (Option Slot)). set l slot (row_slot two)) (p.rows_are ∙ names-before one)
        ∙ set_at (map row_slot front) (row_slot one) (map row_slot rest) (row_slot two) slot (length-map front row_slot)
        ∙ sym (names-before two)

    names-new : AllNew [] (map row_slot (front ++ two ∷ rest))
    names-new =
        let New : List (Option Slot) → Type 0 = λ l. AllNew [] l in
        let old_new = subst New (p.rows_are ∙ names-before one) (rows-new 256 2112 [] table p.rows) in
        let f = can.few in
        subst New (sym (names-before two))
        (swap [] (map row_slot front) (map row_slot rest) (row_slot one) (row_slot two) can.own_name can.other_names
        (omega (arith, f, sum-blocks front, sum-blocks rest, length-own two)) old_new)

    rows-hold : Hold (rows_checks Version.Two 256 2112 [] (piece 2112 24576 new))
    rows-hold =
        let s = b.spelled in
        let P : List ℕ → Type 0 = λ r. Hold (rows_checks Version.Two 256 2112 [] r) in
        let New : List (Option Slot) → Type 0 = λ l. AllNew [] l in
        subst P (sym rows-there) (rows-over part (row_slot two) s.size s.is s.own 256 slot (2112 + 96 * slot - 2112) 2112 [] [] table at-is here
        table-long (subst New (sym set-names) names-new) p.rows)

    rows-are : slots_of 256 (piece 2112 24576 new) ≡ map row_slot (front ++ two ∷ rest)
    rows-are =
        let s = b.spelled in
        ap (λ (r : List ℕ). slots_of 256 r) rows-there
        ∙ slots-over part (row_slot two) s.size s.is s.own 256 slot (2112 + 96 * slot - 2112) table at-is here table-long
        ∙ set-names

    -- ---- the tables

    old-once : AreGivenOnce tables (no_marks 16641) (blocks_in front ++ (row_blocks one ++ blocks_in rest))
    old-once =
        let Once : List ℕ → Type 0 = λ l. AreGivenOnce tables (no_marks 16641) l in
        subst Once (blocks-around front rest one) (all-once (standing one) old p)

    new-given : AllGiven tables (no_marks 16641) (blocks_in (front ++ two ∷ rest))
    new-given =
        let each = old-once in
        let Given : List ℕ → Type 0 = λ l. AllGiven tables (no_marks 16641) l in
        let all_blocks = blocks_in front ++ (row_blocks two ++ blocks_in rest) in
        subst Given (sym (blocks-around front rest two))
        (given-if-once tables (no_marks 16641) all_blocks (record {
          there = all-swap (IsFileBlock tables) (blocks_in front) (row_blocks one) (row_blocks two) (blocks_in rest) can.there each.there;
          free = λ k d lt. no-marks 16641 (get_or all_blocks k d);
          distinct = distinct-swap (blocks_in front) (row_blocks one) (row_blocks two) (blocks_in rest) can.distinct can.free each.distinct;
        }))

    allotted : AreTablesAllotted tables place (front ++ two ∷ rest) (no_marks 16641) new
    allotted = tables-over front rest one two tables place (no_marks 16641) (no_marks 16641) old new b.others_same new-given
        (record { holds = p.tables; blocks = p.blocks_are })

    -- ---- the ids

    ids-new : AllNewIds heads.next [] (front ++ two ∷ rest)
    ids-new = swap-ids heads.next [] front rest one two can.own_id can.other_ids (ids-split (front ++ one ∷ rest) heads.next (place + 1048576) []
        (piece (place + 1048576) 4096 old) p.ids_are p.ids).new

    ids-hold : Hold (ids_checks heads.next (place + 1048576) [] (map row_slot (front ++ two ∷ rest)) (piece (place + 1048576) 4096 new))
    ids-hold = ids-join (front ++ two ∷ rest) heads.next (place + 1048576) [] (piece (place + 1048576) 4096 new) b.ids_are ids-new b.ids_zeros

    -- ---- what is held

    held-old : All (IsHeld (length new)) (blocks_in front ++ (row_blocks one ++ blocks_in rest))
    held-old =
        let Held : List ℕ → Type 0 = λ l. All (IsHeld (length old)) l in
        let blocks = blocks_in front ++ (row_blocks one ++ blocks_in rest) in
        All-weaker (IsHeld (length old)) (IsHeld (length new)) (λ block h. omega (arith, h, longer)) blocks (subst Held (blocks-around front rest one)
        (held-all (standing one) old p))

    held-new : held (length new) (marks_with (no_marks 16641) (blocks_in (front ++ two ∷ rest))) ≡ Ok tt
    held-new =
        let Each : List ℕ → Type 0 = λ l. All (IsHeld (length new)) l in
        let each = subst Each (sym (blocks-around front rest two)) (all-swap (IsHeld (length new)) (blocks_in front) (row_blocks one) (row_blocks two)
        (blocks_in rest) b.held_own held-old) in
        held-by (length new) (marks_with (no_marks 16641) (blocks_in (front ++ two ∷ rest)))
        (λ block given. each-given (IsHeld (length new)) (no_marks 16641) (blocks_in (front ++ two ∷ rest)) each block
        (λ marked. absurd (never block marked)) given)
      where
        never : (block : ℕ) → IsGiven (no_marks 16641) block → ⊥
        never block marked = let free = no-marks 16641 block in let wrong : true ≡ false = sym marked ∙ free in cc

    -- ---- all

    pub become-parts : HasParts new (found_of (standing two))
    become-parts =
        let Front : List ℕ → Type 0 = λ x. Hold (front_checks x) in
        let FrontIs : List ℕ → Type 0 = λ x. front_of x ≡ (found_of (standing one)).front in
        let Hosts : List ℕ → Type 0 = λ x. Hold (hosts_checks 64 64 x) in
        let HostsAre : List ℕ → Type 0 = λ x. hosts_of 64 x ≡ hosts in
        let Gap : List ℕ → Type 0 = λ x. are_zeros x ≡ true in
        record {
          front = subst Front (sym front-same) p.front;
          front_is = subst FrontIs (sym front-same) p.front_is;
          hosts = subst Hosts (sym hosts-same) p.hosts;
          hosts_are = subst HostsAre (sym hosts-same) p.hosts_are;
          rows = rows-hold;
          rows_are = rows-are;
          gap = subst Gap (sym gap-same) p.gap;
          tables = allotted.holds;
          blocks_are = allotted.blocks;
          marks_are = tables-marks-are place (front ++ two ∷ rest) (no_marks 16641) new ∙ ap (λ (l : List ℕ). marks_with (no_marks 16641) l) allotted.blocks;
          ids_whole = let whole = p.ids_whole in omega (arith, whole, longer);
          ids = ids-hold;
          ids_are = b.ids_are;
          held_all = held-new;
        }

    pub become-begins : BeginsAsTwo old → BeginsAsTwo new
    become-begins begins = begins-same old new longer (side 0 8 (omega arith) (inl (omega arith))) begins
