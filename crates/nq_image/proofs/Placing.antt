-- A file is written to its row, a row is cleared, a row says another revision.
use Rattle.std.proofs.Common.{◌≡◌, ◌≢◌, ◌≤◌, ◌<◌, ◌+◌, ◌*◌, ◌==◌, ℕ, suc, Bool, true, false, List, [], ◌∷◌, ◌++◌, Option, Some, None, take, drop, map}
use Rattle.std.proofs.Common.{length, get_or, refl, sym, ap, subst, ◌∙◌, arith, length-append, length-drop}
use Rattle.std.specs.List.{All, list_any, sum_by}
use Rattle.std.specs.Prelude.{slice_index_or}
use Rattle.std.specs.Int.{w32, to_be_bytes}
use Rattle.std.proofs.lemmas.List.{length-map, length-take-le, map-append, set_split}
use Rattle.std.proofs.lemmas.List.Elements.{All-cons, All-nil, All-tail, All-weaker, All-map}
use Rattle.std.proofs.lemmas.List.Folds.{list_any_none}
use Rattle.std.proofs.lemmas.List.Sums.{sum_by-append, sum_by-cons}
use Rattle.nq_image.specs.Kept.{body_in}
use Rattle.nq_image.specs.Layout.{are_zeros, block_place, piece}
use Rattle.nq_image.specs.Rows.{blocks_of, has_name, is_named}
use Rattle.nq_image.specs.Standing.{AgreeBut, AreNumbered, CanStand, IsApartFrom, IsFileBlock, IsFileWritten, IsNoneOf, IsRowCleared, PlacedFile}
use Rattle.nq_image.specs.Standing.{Standing, Stands, blocks_in, found_of, overwritten, row_blocks, row_id, row_slot, rows_of_image, with_placed}
use Rattle.nq_image.specs.Tables.{ids_of, slot_checks, slot_table}
use Rattle.nq_image.specs.Writing.{row_bytes, table_of_blocks, zeros_of}
use Rattle.nq_image.specs.declared.rows.Slot.{Slot}
use Rattle.nq_image.proofs.Agreeing.{SameFrom, all-front, all-rest, all-rows, same-tables}
use Rattle.nq_image.proofs.Allotting.{AreOthersSame, TableBecomes, becomes-same, becomes-written}
use Rattle.nq_image.proofs.FileRows.{length-row, row-holds, slot-is, unused-holds, unused-is}
use Rattle.nq_image.proofs.Giving.{IsHeld}
use Rattle.nq_image.proofs.Numbering.{AllNewIds, IsNewId, IsOtherId, ids-of-any, ids-split, not-equal}
use Rattle.nq_image.proofs.Parting.{HasParts, image-of-parts, parts-of}
use Rattle.nq_image.proofs.Replacing.{CanStandBetween, IsBecome, IsSpelled, around-row, become-begins, become-parts, blocks-append, blocks-around}
use Rattle.nq_image.proofs.Replacing.{held-all, ids-behind, ids-written, sum-blocks}
use Rattle.nq_image.proofs.Rowing.{AllNew, IsApartRow, IsNewTo, apart-named, has-not, rows-new}
use Rattle.nq_image.proofs.ReadBack.{Hold, length-zeros}

-- ---- rows around one

abbrev pub rows_before : Standing → ℕ → List (Option PlacedFile)
rows_before s slot = take slot s.rows

abbrev pub rows_behind : Standing → ℕ → List (Option PlacedFile)
rows_behind s slot = drop (suc slot) s.rows

abbrev with-rows-of : Standing → List (Option PlacedFile) → Standing
with-rows-of s rows = record { heads = s.heads; tables = s.tables; hosts = s.hosts; rows = rows }

abbrev IsNumberedRow : ℕ → Option PlacedFile → Type 0
IsNumberedRow n None = Unit {0}
IsNumberedRow n (Some file) = file.slot ≡ n

number-first : (row : Option PlacedFile) (rows : List (Option PlacedFile)) (first : ℕ) → IsNumberedRow first row → AreNumbered (first + 1) rows
    → AreNumbered first (row ∷ rows)
number-first None rows first own rest = rest
number-first (Some file) rows first own rest = (own, rest)

number-rest : (row : Option PlacedFile) (rows : List (Option PlacedFile)) (first : ℕ) → AreNumbered first (row ∷ rows) → AreNumbered (first + 1) rows
number-rest None rows first all = all
number-rest (Some file) rows first all = all.1

number-again : (row : Option PlacedFile) (rows more : List (Option PlacedFile)) (first : ℕ) → AreNumbered first (row ∷ rows) → AreNumbered (first + 1)
    more → AreNumbered first (row ∷ more)
number-again None rows more first all rest = rest
number-again (Some file) rows more first all rest = (all.0, rest)

numbered-swap : (front rest : List (Option PlacedFile)) (one two : Option PlacedFile) (first : ℕ) → IsNumberedRow (first + length front) two
    → AreNumbered first (front ++ one ∷ rest) → AreNumbered first (front ++ two ∷ rest)
numbered-swap [] rest one two first own all =
    let e : first + 0 ≡ first = omega arith in
    let Own : ℕ → Type 0 = λ n. IsNumberedRow n two in
    number-first two rest first (subst Own e own) (number-rest one rest first all)
numbered-swap (row ∷ front) rest one two first own all =
    let e : first + length (row ∷ front) ≡ first + 1 + length front = omega arith in
    let Own : ℕ → Type 0 = λ n. IsNumberedRow n two in
    number-again row (front ++ one ∷ rest) (front ++ two ∷ rest) first all (numbered-swap front rest one two (first + 1) (subst Own e own)
    (number-rest row (front ++ one ∷ rest) first all))

-- ---- tables and ids around a row

piece-at : (tables n : ℕ) (old new : List ℕ) → body_in new (tables + n) ≡ body_in old (tables + n) → piece (block_place tables + 4096 * n) 4096 new
    ≡ piece (block_place tables + 4096 * n) 4096 old
piece-at tables n old new same =
    let e : block_place (tables + n) ≡ block_place tables + 4096 * n = omega arith in
    let P : ℕ → Type 0 = λ p. piece p 4096 new ≡ piece p 4096 old in
    subst P e same

same-before : (tables slot : ℕ) (old new : List ℕ) → slot < 256 → ((n : ℕ) → n < 256 → n ≢ slot → body_in new (tables + n) ≡ body_in old (tables + n))
    → SameFrom (block_place tables) slot old new
same-before tables slot old new lt same k below = piece-at tables k old new (same k (omega arith) (omega arith))

same-behind : (tables slot count : ℕ) (old new : List ℕ) → slot + 1 + count ≤ 256 → ((n : ℕ) → n < 256 → n ≢ slot → body_in new (tables + n)
    ≡ body_in old (tables + n)) → SameFrom (block_place tables + 4096 * slot + 4096) count old new
same-behind tables slot count old new few same k below =
    let e : block_place tables + 4096 * (slot + 1 + k) ≡ block_place tables + 4096 * slot + 4096 + 4096 * k = omega arith in
    let P : ℕ → Type 0 = λ p. piece p 4096 new ≡ piece p 4096 old in
    subst P e (piece-at tables (slot + 1 + k) old new (same (slot + 1 + k) (omega arith) (omega arith)))

ids-at : (tables slot : ℕ) (part old new : List ℕ) → body_in new (tables + 256) ≡ overwritten (4 * slot) part (body_in old (tables + 256))
    → piece (block_place tables + 1048576) 4096 new ≡ overwritten (4 * slot) part (piece (block_place tables + 1048576) 4096 old)
ids-at tables slot part old new is =
    let e : block_place (tables + 256) ≡ block_place tables + 1048576 = omega arith in
    let P : ℕ → Type 0 = λ p. piece p 4096 new ≡ overwritten (4 * slot) part (piece p 4096 old) in
    subst P e is

-- ---- what can stand in a row

apart-id : (file : PlacedFile) (row : Option PlacedFile) → 1 ≤ file.id → IsApartFrom file row → (row_id row == file.id) ≡ false
apart-id file None some apart = not-equal 0 file.id (omega arith)
apart-id file (Some other) some apart = not-equal other.id file.id (λ e. apart.1 (sym e))

apart-other : (file : PlacedFile) (row : Option PlacedFile) → IsApartFrom file row → IsOtherId file.id row
apart-other file None apart = tt
apart-other file (Some other) apart = apart.1

apart-row : (file : PlacedFile) (row : Option PlacedFile) → IsApartFrom file row → IsApartRow (row_slot (Some file)) (row_slot row)
apart-row file None apart = tt
apart-row file (Some other) apart = apart.0

module _ (s : Standing) (file : PlacedFile) (can : CanStand s file) where
  abbrev before : List (Option PlacedFile)
  before = rows_before s file.slot

  abbrev behind : List (Option PlacedFile)
  behind = rows_behind s file.slot

  abbrev own-slot : Slot
  own-slot = record { name = file.name; blocks = length file.blocks; rev = file.rev }

  apart-before : All (IsApartFrom file) before
  apart-before = all-front (IsApartFrom file) before behind can.apart

  apart-behind : All (IsApartFrom file) behind
  apart-behind = all-rest (IsApartFrom file) before behind can.apart

  few-all : length (blocks_in before) + length file.blocks + length (blocks_in behind) ≤ 16384
  few-all = let f = can.few in omega (arith, f, ap length (blocks-append before behind), length-append (blocks_in before) (blocks_in behind))

  ids-before : list_any (λ k. k == file.id) (map row_id before) ≡ false
  ids-before =
      let some = can.from_one in
      list_any_none (λ k. k == file.id) (map row_id before)
      (All-map (λ k. (k == file.id) ≡ false) row_id before (All-weaker (IsApartFrom file) (λ row. (row_id row == file.id) ≡ false)
      (λ row apart. apart-id file row some apart) before apart-before))

  names-before : is_named file.name (map row_slot before) ≡ false
  names-before =
      apart-named file.name (map row_slot before)
      (All-map (λ x. has_name file.name x ≡ false) row_slot before (All-weaker (IsApartFrom file) (λ row. has_name file.name (row_slot row) ≡ false)
      (λ row apart. has-not own-slot (row_slot row) (apart-row file row apart)) before apart-before))

  pub can-between : CanStandBetween s.heads.next s.tables before behind (Some file)
  can-between = record {
    own_id = (can.from_one, can.below_next, ids-before);
    other_ids = All-weaker (IsApartFrom file) (IsOtherId file.id) (λ row apart. apart-other file row apart) behind apart-behind;
    own_name = (names-before, (let few = few-all in omega (arith, few, sum-blocks before)));
    other_names = All-map (IsApartRow (Some own-slot)) row_slot behind (All-weaker (IsApartFrom file) (λ row. IsApartRow (Some own-slot)
        (row_slot row)) (λ row apart. apart-row file row apart) behind apart-behind);
    few = few-all;
    few_ids = can.few_ids;
    there = can.there;
    distinct = can.distinct;
    free = free-all;
  }
    where
      free-all : All (IsNoneOf (blocks_in before ++ blocks_in behind)) file.blocks
      free-all = let P : List ℕ → Type 0 = λ l. All (IsNoneOf l) file.blocks in subst P (blocks-append before behind) can.free

  pub spelled : IsSpelled (Some file) (row_bytes file.name (length file.blocks) file.rev)
  spelled = record {
    size = length-row file.name (length file.blocks) file.rev can.name can.short can.rev;
    is = slot-is file.name (length file.blocks) file.rev can.name can.short can.rev;
    own = λ place rows new. row-holds file.name (length file.blocks) file.rev can.name can.short can.rev place rows new.0 can.some new.1;
  }

-- ---- the law of a file

length-sides : (s : Standing) (slot : ℕ) → slot < length s.rows → (length (rows_before s slot) ≡ slot) × (slot + 1 + length (rows_behind s slot)
    ≡ length s.rows)
length-sides s slot lt = (length-take-le slot s.rows (omega arith), omega (arith, length-drop (suc slot) s.rows, lt))

-- an image in which the rows are others around one
module _ (s : Standing) (slot : ℕ) (two : Option PlacedFile) (part old new : List ℕ) (lt : slot < 256) (stands : Stands old s)
    (number : IsNumberedRow slot two) where
  abbrev front : List (Option PlacedFile)
  front = rows_before s slot

  abbrev rest : List (Option PlacedFile)
  rest = rows_behind s slot

  abbrev one : Option PlacedFile
  one = get_or s.rows slot None

  all-of : length s.rows ≡ 256
  all-of = let image = parts-of old (found_of s) stands.found in sym (length-map s.rows row_slot) ∙ all-rows s old image.parts

  within : slot < length s.rows
  within = omega (arith, lt, all-of)

  around : s.rows ≡ front ++ one ∷ rest
  around = around-row slot s.rows within

  pub row-becomes : CanStandBetween s.heads.next s.tables front rest two → IsBecome s.heads s.tables s.hosts front rest one two part old new
      → Stands new (with_placed s slot two)
  row-becomes can become =
      let image = parts-of old (found_of s) stands.found in
      let long = image.begins.long in
      let P : List (Option PlacedFile) → Type 0 = λ rows. HasParts old (found_of (with-rows-of s rows)) in
      let Q : List (Option PlacedFile) → Type 0 = λ rows. Stands new (with-rows-of s rows) in
      let All256 : List (Option PlacedFile) → Type 0 = λ rows. length rows ≡ 256 in
      let Numbered : List (Option PlacedFile) → Type 0 = λ rows. AreNumbered 0 rows in
      let parts = subst P around image.parts in
      let all = subst All256 around all-of in
      let sides = length-sides s slot within in
      let at : 0 + length front ≡ slot = let a = sides.0 in omega arith in
      let Number : ℕ → Type 0 = λ n. IsNumberedRow n two in
      subst Q (sym (set_split s.rows slot two within)) (record {
        found = image-of-parts new (found_of (with-rows-of s (front ++ two ∷ rest)))
            (become-begins s.heads s.tables s.hosts front rest one two part old new long all can become parts image.begins)
            (become-parts s.heads s.tables s.hosts front rest one two part old new long all can become parts);
        numbered = numbered-swap front rest one two 0 (subst Number (sym at) number) (subst Numbered around stands.numbered);
      })

pub file-stands : (s : Standing) (file : PlacedFile) (old new : List ℕ) → Stands old s → CanStand s file → IsFileWritten s file old new
    → Stands new (with_placed s file.slot (Some file))
file-stands s file old new stands can w =
    let slot = file.slot in
    let lt = can.row in
    let part = row_bytes file.name (length file.blocks) file.rev in
    let all = all-of s slot (Some file) part old new lt stands refl in
    let sides = length-sides s slot (omega (arith, lt, all)) in
    let front = rows_before s slot in
    let rest = rows_behind s slot in
    let one = get_or s.rows slot None in
    let Slot : ℕ → Type 0 = λ n. rows_of_image new ≡ overwritten (2112 + 96 * n) part (rows_of_image old) in
    let Ids : ℕ → Type 0 = λ n. piece (block_place s.tables + 1048576) 4096 new ≡ overwritten (4 * n) (to_be_bytes w32 file.id)
    (piece (block_place s.tables + 1048576) 4096 old) in
    let Others : ℕ → Type 0 = λ n. AreOthersSame s.tables (block_place s.tables) n (length rest) one (Some file) old new in
    let e : block_place (s.tables + slot) ≡ block_place s.tables + 4096 * slot = omega arith in
    let Table : ℕ → Type 0 = λ p. piece p 4096 new ≡ table_of_blocks file.blocks in
    let few = sides.1 in
    let Parts : List (Option PlacedFile) → Type 0 = λ rows. HasParts old (found_of (with-rows-of s rows)) in
    let All256 : List (Option PlacedFile) → Type 0 = λ rows. length rows ≡ 256 in
    let image = parts-of old (found_of s) stands.found in
    let split_rows = around-row slot s.rows (omega (arith, lt, all)) in
    let parts = subst Parts split_rows image.parts in
    let whole = subst All256 split_rows all in
    let ids = subst Ids (sym sides.0) (ids-at s.tables slot (to_be_bytes w32 file.id) old new w.id) in
    row-becomes s slot (Some file) part old new lt stands refl (can-between s file can) (record {
      rows = subst Slot (sym sides.0) w.row;
      spelled = spelled s file can;
      others_same = subst Others (sym sides.0) (record {
        no_shorter = w.no_shorter;
        front = same-before s.tables slot old new lt w.tables;
        own = becomes-written s.tables (block_place s.tables + 4096 * slot) one (Some file) old new (subst Table e w.table);
        rest = same-behind s.tables slot (length rest) old new (omega (arith, few, all)) w.tables;
      });
      ids_are = ids-written s.heads s.tables s.hosts front rest one (Some file) old new whole can.few_ids parts ids;
      ids_zeros = ids-behind s.heads s.tables s.hosts front rest one (Some file) old new whole can.few_ids parts ids;
      held_own = w.whole;
    })

-- ---- the law of a cleared row

zeros-spelled : IsSpelled None (zeros_of 96)
zeros-spelled = record { size = length-zeros 96; is = unused-is; own = λ place rows new. unused-holds place rows }

zero-id : zeros_of 4 ≡ to_be_bytes w32 0
unfolding zeros_of
zero-id = refl

used-ids : (next : ℕ) (known : List ℕ) (rows : List (Option PlacedFile)) → AllNewIds next known rows → All (IsOtherId 0) rows
used-ids next known [] all = All-nil (IsOtherId 0)
used-ids next known (row ∷ rows) all = All-cons (IsOtherId 0) row rows (own row all.0) (used-ids next (known ++ row_id row ∷ []) rows all.1)
  where
    own : (row : Option PlacedFile) → IsNewId next known row → IsOtherId 0 row
    own None new = tt
    own (Some file) new = let some = new.0 in omega arith

-- rows that are right have not too many blocks
pub few-new : (before slots : List (Option Slot)) → AllNew before slots → sum_by blocks_of before ≤ 16384 → sum_by blocks_of before + sum_by blocks_of
    slots ≤ 16384
few-new before [] new few = omega (arith, few)
few-new before (slot ∷ slots) new few =
    let sums = sum_by-append blocks_of before (slot ∷ []) in
    let one = sum_by-cons blocks_of slot [] in
    let own = few-one before slot new.0 few in
    let more = few-new (before ++ slot ∷ []) slots new.1 (omega (arith, own, sums, one)) in
    omega (arith, more, sums, one, sum_by-cons blocks_of slot slots)
  where
    few-one : (before : List (Option Slot)) (slot : Option Slot) → IsNewTo before slot → sum_by blocks_of before ≤ 16384 → sum_by blocks_of before
        + blocks_of slot ≤ 16384
    few-one before None new few = omega (arith, few)
    few-one before (Some slot) new few = new.1

few-left : (s : Standing) (old : List ℕ) (front rest : List (Option PlacedFile)) (one : Option PlacedFile) → HasParts old (found_of s) → s.rows
    ≡ front ++ one ∷ rest → length (blocks_in front) + 0 + length (blocks_in rest) ≤ 16384
few-left s old front rest one p is =
    let New : List (Option Slot) → Type 0 = λ l. AllNew [] l in
    let new = subst New p.rows_are (rows-new 256 2112 [] (piece 2112 24576 old) p.rows) in
    let few = few-new [] (map row_slot s.rows) new (omega arith) in
    let all = ap (λ (rows : List (Option PlacedFile)). length (blocks_in rows)) is in
    omega (
      arith,
      few,
      sum-blocks s.rows,
      all,
      ap length (blocks-around front rest one),
      length-append (blocks_in front) (row_blocks one
          ++ blocks_in rest),
      length-append (row_blocks one) (blocks_in rest),
    )

none-right : (tables place : ℕ) (other : List Bool) (table : List ℕ) → Hold (slot_checks tables place (row_slot None) other table)
    × (slot_table (row_slot None) table ≡ row_blocks None)
unfolding slot_checks slot_table
none-right tables place other table = (tt, refl)

no-apart : (slots : List (Option Slot)) → All (IsApartRow None) slots
no-apart [] = All-nil (IsApartRow None)
no-apart (slot ∷ slots) = All-cons (IsApartRow None) slot slots tt (no-apart slots)

pub cleared-stands : (s : Standing) (slot : ℕ) (old new : List ℕ) → slot < 256 → Stands old s → IsRowCleared s slot old new
    → Stands new (with_placed s slot None)
cleared-stands s slot old new lt stands w =
    let image = parts-of old (found_of s) stands.found in
    let all = all-of s slot None (zeros_of 96) old new lt stands tt in
    let sides = length-sides s slot (omega (arith, lt, all)) in
    let front = rows_before s slot in
    let rest = rows_behind s slot in
    let one = get_or s.rows slot None in
    let place = block_place s.tables in
    let split = ids-split s.rows s.heads.next (place + 1048576) [] (piece (place + 1048576) 4096 old) image.parts.ids_are image.parts.ids in
    let Rows : List (Option PlacedFile) → Type 0 = λ rows. All (IsOtherId 0) rows in
    let used = used-ids s.heads.next [] s.rows split.new in
    let behind = All-tail (IsOtherId 0) one rest (all-rest (IsOtherId 0) front (one ∷ rest)
    (subst Rows (around-row slot s.rows (omega (arith, lt, all))) used)) in
    let Slot : ℕ → Type 0 = λ n. rows_of_image new ≡ overwritten (2112 + 96 * n) (zeros_of 96) (rows_of_image old) in
    let Ids : ℕ → Type 0 = λ n. piece (place + 1048576) 4096 new ≡ overwritten (4 * n) (to_be_bytes w32 0) (piece (place + 1048576) 4096 old) in
    let Part : List ℕ → Type 0 = λ part. piece (place + 1048576) 4096 new ≡ overwritten (4 * slot) part (piece (place + 1048576) 4096 old) in
    let Others : ℕ → Type 0 = λ n. AreOthersSame s.tables place n (length rest) one None old new in
    let few = sides.1 in
    let split_rows = around-row slot s.rows (omega (arith, lt, all)) in
    let Parts : List (Option PlacedFile) → Type 0 = λ rows. HasParts old (found_of (with-rows-of s rows)) in
    let All256 : List (Option PlacedFile) → Type 0 = λ rows. length rows ≡ 256 in
    let parts = subst Parts split_rows image.parts in
    let whole = subst All256 split_rows all in
    let ids = subst Ids (sym sides.0) (subst Part zero-id (ids-at s.tables slot (zeros_of 4) old new w.id)) in
    let count = few-left s old front rest one image.parts split_rows in
    row-becomes s slot None (zeros_of 96) old new lt stands tt
    (record {
      own_id = tt;
      other_ids = behind;
      own_name = tt;
      other_names = no-apart (map row_slot rest);
      few = count;
      few_ids = omega arith;
      there = All-nil (IsFileBlock s.tables);
      distinct = tt;
      free = All-nil (IsNoneOf (blocks_in front ++ blocks_in rest));
    })
    (record {
      rows = subst Slot (sym sides.0) w.row;
      spelled = zeros-spelled;
      others_same = subst Others (sym sides.0) (record {
        no_shorter = w.no_shorter;
        front = same-before s.tables slot old new lt w.tables;
        own = λ marks other given h same. none-right s.tables (place + 4096 * slot) other (piece (place + 4096 * slot) 4096 new);
        rest = same-behind s.tables slot (length rest) old new (omega (arith, few, all)) w.tables;
      });
      ids_are = ids-written s.heads s.tables s.hosts front rest one None old new whole (omega arith) parts ids;
      ids_zeros = ids-behind s.heads s.tables s.hosts front rest one None old new whole (omega arith) parts ids;
      held_own = All-nil (IsHeld (length new));
    })

-- ---- the law of a row that says another revision

rest-same : (tables slot count : ℕ) (old new : List ℕ) → slot + 1 + count ≤ 256 → SameFrom (block_place tables) 256 old new
    → SameFrom (block_place tables + 4096 * slot + 4096) count old new
rest-same tables slot count old new few each k below =
    let e : block_place tables + 4096 * (slot + 1 + k) ≡ block_place tables + 4096 * slot + 4096 + 4096 * k = omega arith in
    let P : ℕ → Type 0 = λ p. piece p 4096 new ≡ piece p 4096 old in
    subst P e (each (slot + 1 + k) (omega arith))

same-length : (front rest : List (Option PlacedFile)) (one two : Option PlacedFile) → length (front ++ one ∷ rest) ≡ length (front ++ two ∷ rest)
same-length front rest one two = omega (arith, length-append front (one ∷ rest), length-append front (two ∷ rest))

same-ids : (front rest : List (Option PlacedFile)) (was file : PlacedFile) (bytes : List ℕ) → file.id ≡ was.id
    → ids_of (map row_slot (front ++ Some was ∷ rest)) bytes ≡ map row_id (front ++ Some was ∷ rest)
    → ids_of (map row_slot (front ++ Some file ∷ rest)) bytes ≡ map row_id (front ++ Some file ∷ rest)
same-ids front rest was file bytes same h =
    let slots = map row_slot (front ++ Some file ∷ rest) in
    let old_slots = map row_slot (front ++ Some was ∷ rest) in
    let many : length slots ≡ length old_slots = omega (
      arith,
      length-map (front ++ Some file ∷ rest) row_slot,
      length-map (front ++ Some was ∷ rest)
          row_slot,
      same-length front rest (Some was) (Some file),
    ) in
    ids-of-any slots old_slots bytes many
    ∙ h
    ∙ map-append row_id front (Some was ∷ rest)
    ∙ ap (λ (id : ℕ). map row_id front ++ id ∷ map row_id rest) (sym same)
    ∙ sym (map-append row_id front (Some file ∷ rest))

held-from-old : (s : Standing) (old : List ℕ) (slot : ℕ) (was : PlacedFile) → HasParts old (found_of s) → slot < length s.rows
    → get_or s.rows slot None ≡ Some was → All (IsHeld (length old)) was.blocks
held-from-old s old slot was p lt is =
    let rows_are = around-row slot s.rows lt in
    let front = rows_before s slot in
    let rest = rows_behind s slot in
    let each = held-all s old p in
    let One : List (Option PlacedFile) → Type 0 = λ rows. All (IsHeld (length old)) (blocks_in rows) in
    let parted = subst One (rows_are ∙ ap (λ (row : Option PlacedFile). front ++ row ∷ rest) is) each in
    let Blocks : List ℕ → Type 0 = λ l. All (IsHeld (length old)) l in
    let flat = subst Blocks (blocks-around front rest (Some was)) parted in
    all-front (IsHeld (length old)) was.blocks (blocks_in rest) (all-rest (IsHeld (length old)) (blocks_in front) (was.blocks ++ blocks_in rest) flat)

pub row-stands : (s : Standing) (was file : PlacedFile) (old new : List ℕ) → Stands old s → CanStand s file → slice_index_or s.rows file.slot None
    ≡ Some was → file.id ≡ was.id → file.blocks ≡ was.blocks → AgreeBut (2112 + 96 * file.slot) (row_bytes file.name (length file.blocks) file.rev) s
    old new → Stands new (with_placed s file.slot (Some file))
row-stands s was file old new stands can is same_id same_blocks agree =
    let slot = file.slot in
    let lt = can.row in
    let part = row_bytes file.name (length file.blocks) file.rev in
    let image = parts-of old (found_of s) stands.found in
    let all = all-of s slot (Some file) part old new lt stands refl in
    let sides = length-sides s slot (omega (arith, lt, all)) in
    let front = rows_before s slot in
    let rest = rows_behind s slot in
    let one = get_or s.rows slot None in
    let place = block_place s.tables in
    let few = sides.1 in
    let split_rows = around-row slot s.rows (omega (arith, lt, all)) in
    let tables = same-tables s old new agree.blocks in
    let Slot : ℕ → Type 0 = λ n. rows_of_image new ≡ overwritten (2112 + 96 * n) part (rows_of_image old) in
    let Others : ℕ → Type 0 = λ n. AreOthersSame s.tables place n (length rest) one (Some file) old new in
    let Own : Option PlacedFile → Type 0 = λ row. TableBecomes s.tables (place + 4096 * slot) row (Some file) old new in
    let Ids : List ℕ → Type 0 = λ b. ids_of (map row_slot s.rows) b ≡ map row_id s.rows in
    let IdRows : List (Option PlacedFile) → Type 0 = λ rows. ids_of (map row_slot rows) (piece (place + 1048576) 4096 new) ≡ map row_id rows in
    let Zeros : List ℕ → Type 0 = λ b. are_zeros (drop (4 * length s.rows) b) ≡ true in
    let ZeroRows : ℕ → Type 0 = λ n. are_zeros (drop (4 * n) (piece (place + 1048576) 4096 new)) ≡ true in
    let split = ids-split s.rows s.heads.next (place + 1048576) [] (piece (place + 1048576) 4096 old) image.parts.ids_are image.parts.ids in
    let old_ids = subst IdRows split_rows (subst Ids (sym tables.ids) image.parts.ids_are) in
    let from_one = subst IdRows (ap (λ (row : Option PlacedFile). front ++ row ∷ rest) is) old_ids in
    let longer = agree.blocks.no_shorter in
    let Held : List ℕ → Type 0 = λ l. All (IsHeld (length new)) l in
    row-becomes s slot (Some file) part old new lt stands refl (can-between s file can) (record {
      rows = subst Slot (sym sides.0) agree.rows;
      spelled = spelled s file can;
      others_same = subst Others (sym sides.0) (record {
        no_shorter = longer;
        front = λ k below. tables.each k (omega (arith, below, lt));
        own = subst Own (sym is) (becomes-same s.tables (place + 4096 * slot) was file old new same_blocks (tables.each slot lt));
        rest = rest-same s.tables slot (length rest) old new (omega (arith, few, all)) tables.each;
      });
      ids_are = same-ids front rest was file (piece (place + 1048576) 4096 new) same_id from_one;
      ids_zeros = subst ZeroRows (ap length split_rows ∙ same-length front rest one (Some file)) (subst Zeros (sym tables.ids) split.zeros);
      held_own = subst Held (sym same_blocks) (All-weaker (IsHeld (length old)) (IsHeld (length new)) (λ block h. omega (arith, h, longer)) was.blocks
          (held-from-old s old slot was image.parts (omega (arith, lt, all)) is));
    })
