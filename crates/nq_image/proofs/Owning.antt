-- What stands in an image stands apart: each name, each id and each block once.
use Rattle.std.proofs.Common.{◌≡◌, ◌≢◌, ◌≤◌, ◌<◌, ◌^◌, ◌+◌, ◌==◌, ◌&&◌, ◌||◌, ℕ, zero, suc, Bool, true, false, List, [], ◌∷◌, ◌++◌, Option, Some}
use Rattle.std.proofs.Common.{None, take, drop, map, length, if◌then◌else◌, refl, sym, ap, subst, ◌∙◌, arith, length-append}
use Rattle.std.specs.List.{All, list_any, sum_by}
use Rattle.std.specs.Prelude.{nat_le, nat_eq, not, slice_index_or}
use Rattle.std.specs.Cmp.Lexicographic.{pointwise}
use Rattle.std.proofs.lemmas.Bool.Decides.{nat_tests}
use Rattle.std.proofs.lemmas.List.{append-nil, append_assoc, length-map, map-append}
use Rattle.std.proofs.lemmas.List.Elements.{All-append, All-cons, All-get_or, All-nil, All-head, All-tail, All-weaker}
use Rattle.std.proofs.lemmas.List.Folds.{list_any-append}
use Rattle.std.proofs.lemmas.Slice.Eq.{bytes_eq-Decides}
use Rattle.nq_base.specs.Name.{IsName, is_name}
use Rattle.nq_base.proofs.NameTests.{name_decides}
use Rattle.nq_model.specs.protocol.Change.{with_block, with_file}
use Rattle.nq_model.specs.protocol.Kept.{drop_file, with_files}
use Rattle.nq_image.specs.Heads.{front_checks, front_of}
use Rattle.nq_image.specs.Image.{no_marks}
use Rattle.nq_image.specs.Layout.{are_zeros, block_place, hyper_in, piece, word_in}
use Rattle.nq_image.specs.Rows.{behind_name, blocks_of, has_name, is_named, name_holds, name_in, row_checks, rows_checks, slot_of, slots_of}
use Rattle.nq_image.specs.Rows.{used_checks, used_slot}
use Rattle.nq_image.specs.Kept.{body_in}
use Rattle.nq_image.specs.Standing.{CanStand, HasBodies, IsApartFrom, IsBodyWritten, IsFileBlock, IsFileWritten, IsNoneOf, IsRowCleared, PlacedFile}
use Rattle.nq_image.specs.Standing.{Standing, Stands, blocks_in, files_in, found_of, front_for, kept_at, others, row_at, row_for, row_id, row_slot}
use Rattle.nq_image.specs.Standing.{with_placed}
use Rattle.nq_image.specs.declared.heads.Front.{Front}
use Rattle.nq_image.specs.declared.rows.Slot.{Slot}
use Rattle.nq_image.specs.declared.rows.Version.{Version}
use Rattle.nq_image.proofs.Agreeing.{all-front, all-rest, all-rows, hold-behind, hold-front, stands-by-tables, tables-by}
use Rattle.nq_image.proofs.GivenBlocks.{AreGivenOnce, distinct-apart, distinct-behind, distinct-front, apart-back}
use Rattle.nq_image.proofs.Holding.{each-three, test-le, test-lt}
use Rattle.nq_image.proofs.Numbering.{AllNewIds, IsNewId, ids-split}
use Rattle.nq_image.proofs.Parting.{parts-of}
use Rattle.nq_image.proofs.Placing.{few-new}
use Rattle.nq_image.proofs.Replacing.{all-once, around-row, blocks-append, blocks-around, sum-blocks}
use Rattle.nq_image.proofs.Retaining.{block-kept, body-kept, cleared-kept, new-kept, same-kept}
use Rattle.nq_image.proofs.Rowing.{AllNew, IsNewTo, rows-new}
use Rattle.nq_image.proofs.ReadBack.{Hold}

-- ---- each row by itself

-- the numbers of a used row are within their bounds
abbrev IsFine : Option Slot → Type 0
IsFine None = Unit {0}
IsFine (Some slot) = IsName slot.name × (1 ≤ slot.blocks) × (slot.blocks ≤ 1024) × (slot.rev < 2 ^ 61)

used-fine : (place : ℕ) (before : List (Option Slot)) (row : List ℕ) → Hold (used_checks Version.Two place before row) → IsFine (Some (used_slot row))
unfolding used_checks used_slot name_holds
used-fine place before row h =
    let name = each-three (is_name (name_in row)) (are_zeros (behind_name row)) (not (is_named (name_in row) before)) h.1.0 in
    let count = each-three (nat_le 1 (word_in 68 row)) (nat_le (word_in 68 row) 1024) (nat_le (sum_by blocks_of before + word_in 68 row) 16384) h.1.1.0 in (
      (name_decides (name_in row)).0 name.0,
      test-le 1 (word_in 68 row) count.0,
      test-le (word_in 68 row) 1024 count.1,
      test-lt (hyper_in 76 row)
          2305843009213693952 h.1.1.1.1.0,
    )

row-fine-by : (zeros : Bool) (place : ℕ) (before : List (Option Slot)) (row : List ℕ) → Hold (if zeros then [] else used_checks Version.Two place
    before row) → IsFine (if zeros then None else Some (used_slot row))
row-fine-by true place before row h = tt
row-fine-by false place before row h = used-fine place before row h

row-fine : (place : ℕ) (before : List (Option Slot)) (row : List ℕ) → Hold (row_checks Version.Two place before row) → IsFine (slot_of row)
unfolding row_checks slot_of
row-fine place before row h = row-fine-by (are_zeros row) place before row h

rows-fine : (count place : ℕ) (before : List (Option Slot)) (rows : List ℕ) → Hold (rows_checks Version.Two count place before rows)
    → All IsFine (slots_of count rows)
unfolding rows_checks slots_of
rows-fine zero place before rows h = All-nil IsFine
rows-fine (suc count) place before rows h =
    let front = row_checks Version.Two place before (take 96 rows) in
    let more = before ++ slot_of (take 96 rows) ∷ [] in
    let behind = rows_checks Version.Two count (place + 96) more (drop 96 rows) in
    All-cons IsFine (slot_of (take 96 rows)) (slots_of count (drop 96 rows)) (row-fine place before (take 96 rows) (hold-front front behind h))
    (rows-fine count (place + 96) more (drop 96 rows) (hold-behind front behind h))

-- ---- names of their own

or-parts : (a b : Bool) → (a || b) ≡ false → (a ≡ false) × (b ≡ false)
or-parts true b h = cc
or-parts false b h = (refl, h)

differs : (a b : List ℕ) → pointwise nat_eq a b ≡ false → a ≢ b
differs a b never e = let granted = (bytes_eq-Decides a b).1 e in cc

abbrev IsNamedApart : (name : List ℕ) → Option Slot → Type 0
IsNamedApart name None = Unit {0}
IsNamedApart name (Some slot) = slot.name ≢ name

one-apart : (name : List ℕ) (slot : Option Slot) → has_name name slot ≡ false → IsNamedApart name slot
one-apart name None h = tt
one-apart name (Some slot) h = differs slot.name name h

none-named : (name : List ℕ) (slots : List (Option Slot)) → is_named name slots ≡ false → All (IsNamedApart name) slots
none-named name [] h = All-nil (IsNamedApart name)
none-named name (slot ∷ slots) h =
    let both = or-parts (has_name name slot) (is_named name slots) h in
    All-cons (IsNamedApart name) slot slots (one-apart name slot both.0) (none-named name slots both.1)

-- a row in front has another name than each behind it
behind-apart : (own : Slot) (front mid rest : List (Option Slot)) → AllNew (front ++ Some own ∷ mid) rest → All (IsNamedApart own.name) rest
behind-apart own front mid [] new = All-nil (IsNamedApart own.name)
behind-apart own front mid (slot ∷ rest) new =
    let New : List (Option Slot) → Type 0 = λ l. AllNew l rest in
    All-cons (IsNamedApart own.name) slot rest (first own front mid slot new.0) (behind-apart own front (mid ++ slot ∷ []) rest
    (subst New (append_assoc front (Some own ∷ mid) (slot ∷ [])) new.1))
  where
    first : (own : Slot) (front mid : List (Option Slot)) (slot : Option Slot) → IsNewTo (front ++ Some own ∷ mid) slot → IsNamedApart own.name slot
    first own front mid None new = tt
    first own front mid (Some x) new =
        let p = has_name x.name in
        let parts = or-parts (is_named x.name front) (is_named x.name (Some own ∷ mid)) (sym (list_any-append p front (Some own ∷ mid)) ∙ new.0) in
        let here = or-parts (pointwise nat_eq own.name x.name) (is_named x.name mid) parts.1 in
        λ e. differs own.name x.name here.0 (sym e)

names-apart : (done front rest : List (Option Slot)) (own : Slot) → AllNew done (front ++ Some own ∷ rest) → All (IsNamedApart own.name)
    (done ++ front) × All (IsNamedApart own.name) rest
names-apart done [] rest own new =
    let Done : List (Option Slot) → Type 0 = λ l. All (IsNamedApart own.name) l in
    (subst Done (sym (append-nil done)) (none-named own.name done new.0.0), behind-apart own done [] rest new.1)
names-apart done (slot ∷ front) rest own new =
    let Done : List (Option Slot) → Type 0 = λ l. All (IsNamedApart own.name) l in
    let more = names-apart (done ++ slot ∷ []) front rest own new.1 in
    (subst Done (append_assoc done (slot ∷ []) front) more.0, more.1)

-- ---- ids of their own

not-that : (m n : ℕ) → (m == n) ≡ false → m ≢ n
not-that m n h = grind (arith, nat_tests)

abbrev IsIdApart : (id : ℕ) → Option PlacedFile → Type 0
IsIdApart id None = Unit {0}
IsIdApart id (Some file) = file.id ≢ id

none-known : (id : ℕ) (known : List ℕ) → list_any (λ k. k == id) known ≡ false → All (λ k. k ≢ id) known
none-known id [] h = All-nil (λ k. k ≢ id)
none-known id (k ∷ known) h =
    let both = or-parts (k == id) (list_any (λ j. j == id) known) h in
    All-cons (λ j. j ≢ id) k known (not-that k id both.0) (none-known id known both.1)

ids-behind : (next own : ℕ) (front mid : List ℕ) (rest : List (Option PlacedFile)) → AllNewIds next (front ++ own ∷ mid) rest → All (IsIdApart own) rest
ids-behind next own front mid [] new = All-nil (IsIdApart own)
ids-behind next own front mid (row ∷ rest) new =
    let New : List ℕ → Type 0 = λ l. AllNewIds next l rest in
    All-cons (IsIdApart own) row rest (first next own front mid row new.0) (ids-behind next own front (mid ++ row_id row ∷ []) rest
    (subst New (append_assoc front (own ∷ mid) (row_id row ∷ [])) new.1))
  where
    first : (next own : ℕ) (front mid : List ℕ) (row : Option PlacedFile) → IsNewId next (front ++ own ∷ mid) row → IsIdApart own row
    first next own front mid None new = tt
    first next own front mid (Some file) new =
        let all = all-rest (λ k. k ≢ file.id) front (own ∷ mid) (none-known file.id (front ++ own ∷ mid) new.2) in
        λ e. All-head (λ k. k ≢ file.id) own mid all (sym e)

ids-before : (id : ℕ) (rows : List (Option PlacedFile)) → All (λ k. k ≢ id) (map row_id rows) → All (IsIdApart id) rows
ids-before id [] all = All-nil (IsIdApart id)
ids-before id (row ∷ rows) all =
    All-cons (IsIdApart id) row rows (first id row (All-head (λ k. k ≢ id) (row_id row) (map row_id rows) all))
    (ids-before id rows (All-tail (λ k. k ≢ id) (row_id row) (map row_id rows) all))
  where
    first : (id : ℕ) (row : Option PlacedFile) → row_id row ≢ id → IsIdApart id row
    first id None ne = tt
    first id (Some file) ne = ne

record IdsApart (next id : ℕ) (known : List ℕ) (front rest : List (Option PlacedFile)) : Type 0 where
  from_one : 1 ≤ id
  below : id < next
  before : All (λ k. k ≢ id) (known ++ map row_id front)
  behind : All (IsIdApart id) rest

ids-apart : (next : ℕ) (known : List ℕ) (front rest : List (Option PlacedFile)) (file : PlacedFile) → AllNewIds next known (front ++ Some file ∷ rest)
    → IdsApart next file.id known front rest
ids-apart next known [] rest file new =
    let Known : List ℕ → Type 0 = λ l. All (λ k. k ≢ file.id) l in
    record {
      from_one = new.0.0;
      below = new.0.1;
      before = subst Known (sym (append-nil known)) (none-known file.id known new.0.2);
      behind = ids-behind next file.id known [] rest new.1;
    }
ids-apart next known (row ∷ front) rest file new =
    let Known : List ℕ → Type 0 = λ l. All (λ k. k ≢ file.id) l in
    let more = ids-apart next (known ++ row_id row ∷ []) front rest file new.1 in
    record {
      from_one = more.from_one;
      below = more.below;
      before = subst Known (append_assoc known (row_id row ∷ []) (map row_id front)) more.before;
      behind = more.behind;
    }

-- ---- a file that stands

last-id : (front : List ℕ) (f : Front) → Hold (front_checks front) → front_of front ≡ f → f.next ≤ 2147483648
unfolding front_of
last-id front f hold is =
    let e : word_in 20 front ≡ f.next = ap (λ (x : Front). x.next) is in
    let a = test-le (word_in 20 front) 2147483648 (second (nat_le 1 (word_in 20 front)) (nat_le (word_in 20 front) 2147483648) hold.1.1.1.0) in
    omega (arith, e, a)
  where
    second : (a b : Bool) → (a && b) ≡ true → b ≡ true
    second true b h = h
    second false b h = cc

both-apart : (file : PlacedFile) (rows : List (Option PlacedFile)) → All (IsNamedApart file.name) (map row_slot rows) → All (IsIdApart file.id) rows
    → All (IsApartFrom file) rows
both-apart file [] names ids = All-nil (IsApartFrom file)
both-apart file (row ∷ rows) names ids =
    All-cons (IsApartFrom file) row rows
    (first file row (All-head (IsNamedApart file.name) (row_slot row) (map row_slot rows) names) (All-head (IsIdApart file.id) row rows ids))
    (both-apart file rows (All-tail (IsNamedApart file.name) (row_slot row) (map row_slot rows) names) (All-tail (IsIdApart file.id) row rows ids))
  where
    first : (file : PlacedFile) (row : Option PlacedFile) → IsNamedApart file.name (row_slot row) → IsIdApart file.id row → IsApartFrom file row
    first file None name id = tt
    first file (Some other) name id = (name, id)

pub standing-apart : (bytes : List ℕ) (s : Standing) (file : PlacedFile) → Stands bytes s → file.slot < 256 → row_at s file.slot ≡ Some file → CanStand s file
standing-apart bytes s file stands lt is =
    let image = parts-of bytes (found_of s) stands.found in
    let p = image.parts in
    let few_ids = last-id (piece 0 64 bytes) (front_for s.heads s.tables) p.front p.front_is in
    let slot = file.slot in
    let long : length s.rows ≡ 256 = sym (length-map s.rows row_slot) ∙ all-rows s bytes p in
    let within : slot < length s.rows = omega (arith, lt, long) in
    let front = take slot s.rows in
    let rest = drop (suc slot) s.rows in
    let around = around-row slot s.rows within ∙ ap (λ (row : Option PlacedFile). front ++ row ∷ rest) is in
    let own : Slot = record { name = file.name; blocks = length file.blocks; rev = file.rev } in
    let named = ap (map row_slot) around ∙ map-append row_slot front (Some file ∷ rest) in
    let New : List (Option Slot) → Type 0 = λ l. AllNew [] l in
    let new = subst New (p.rows_are ∙ named) (rows-new 256 2112 [] (piece 2112 24576 bytes) p.rows) in
    let names = names-apart [] (map row_slot front) (map row_slot rest) own new in
    let Fine : List (Option Slot) → Type 0 = λ l. All IsFine l in
    let fine = subst Fine (p.rows_are ∙ named) (rows-fine 256 2112 [] (piece 2112 24576 bytes) p.rows) in
    let own_fine = All-head IsFine (Some own) (map row_slot rest) (all-rest IsFine (map row_slot front) (Some own ∷ map row_slot rest) fine) in
    let place = block_place s.tables in
    let Ids : List (Option PlacedFile) → Type 0 = λ rows. AllNewIds s.heads.next [] rows in
    let split = ids-split s.rows s.heads.next (place + 1048576) [] (piece (place + 1048576) 4096 bytes) p.ids_are p.ids in
    let ids = ids-apart s.heads.next [] front rest file (subst Ids around split.new) in
    let apart_front = both-apart file front names.0 (ids-before file.id front ids.before) in
    let apart_rest = both-apart file rest names.1 ids.behind in
    let Once : List ℕ → Type 0 = λ l. AreGivenOnce s.tables (no_marks 16641) l in
    let blocks = ap blocks_in around ∙ blocks-around front rest (Some file) in
    let once = subst Once blocks (all-once s bytes p) in
    let there = all-front (IsFileBlock s.tables) file.blocks (blocks_in rest) (all-rest (IsFileBlock s.tables) (blocks_in front) (file.blocks
    ++ blocks_in rest) once.there) in
    let behind = distinct-behind (blocks_in front) (file.blocks ++ blocks_in rest) once.distinct in
    let from_front = All-weaker (IsNoneOf (file.blocks ++ blocks_in rest)) (IsNoneOf file.blocks) (λ b none. all-front (λ o. o ≢ b) file.blocks
    (blocks_in rest) none) (blocks_in front) (distinct-apart (blocks_in front) (file.blocks ++ blocks_in rest) once.distinct) in
    let none_front = apart-back file.blocks (blocks_in front) from_front in
    let none_rest = distinct-apart file.blocks (blocks_in rest) behind in
    let Others : List ℕ → Type 0 = λ l. All (IsNoneOf l) file.blocks in
    let none = none-of-both file.blocks (blocks_in front) (blocks_in rest) none_front none_rest in
    let few = few-new [] (map row_slot s.rows) (subst New p.rows_are (rows-new 256 2112 [] (piece 2112 24576 bytes) p.rows)) (omega arith) in
    let below = ids.below in
    record {
      row = lt;
      from_one = ids.from_one;
      below_next = below;
      few_ids = omega (arith, below, few_ids);
      name = own_fine.0;
      rev = own_fine.3;
      some = own_fine.1;
      short = own_fine.2;
      few = omega (
        arith,
        few,
        sum-blocks s.rows,
        ap length blocks,
        length-append (blocks_in front) (file.blocks ++ blocks_in rest),
        length-append file.blocks (blocks_in rest),
        ap length (blocks-append front rest),
        length-append (blocks_in front) (blocks_in rest),
      );
      apart = All-append (IsApartFrom file) front rest apart_front apart_rest;
      distinct = distinct-front file.blocks (blocks_in rest) behind;
      there = there;
      free = subst Others (sym (blocks-append front rest)) none;
    }
  where
    none-of-both : (xs ys zs : List ℕ) → All (IsNoneOf ys) xs → All (IsNoneOf zs) xs → All (IsNoneOf (ys ++ zs)) xs
    none-of-both [] ys zs one two = All-nil (IsNoneOf (ys ++ zs))
    none-of-both (x ∷ xs) ys zs one two =
        All-cons (IsNoneOf (ys ++ zs)) x xs (All-append (λ o. o ≢ x) ys zs (All-head (IsNoneOf ys) x xs one) (All-head (IsNoneOf zs) x xs two))
        (none-of-both xs ys zs (All-tail (IsNoneOf ys) x xs one) (All-tail (IsNoneOf zs) x xs two))

-- ---- the laws of changes, with nothing to show of the other files

pub rows-of : (bytes : List ℕ) (s : Standing) → Stands bytes s → length s.rows ≡ 256
rows-of bytes s stands = let image = parts-of bytes (found_of s) stands.found in sym (length-map s.rows row_slot) ∙ all-rows s bytes image.parts

pub new-file-kept : (s : Standing) (file : PlacedFile) (old new : List ℕ) → Stands old s → CanStand s file → row_at s file.slot ≡ None
    → All (λ f. f.id < file.id) (files_in s) → HasBodies s file old new → IsFileWritten s file old new
    → kept_at new (with_placed s file.slot (Some file)) ≡ with_files (kept_at old s) (with_file (row_for file) (kept_at old s).files)
new-file-kept s file old new stands can is last bodies w =
    let lt = can.row in
    new-kept s file old new (omega (arith, lt, rows-of old s stands)) is can.apart last bodies w.bodies

pub same-file-kept : (s : Standing) (was file : PlacedFile) (old new : List ℕ) → Stands old s → CanStand s file → row_at s file.slot ≡ Some was
    → was.id ≡ file.id → HasBodies s file old new → All (λ block. body_in new block ≡ body_in old block) (blocks_in (others file.slot s.rows))
    → kept_at new (with_placed s file.slot (Some file)) ≡ with_files (kept_at old s) (with_file (row_for file) (kept_at old s).files)
same-file-kept s was file old new stands can is same bodies rest =
    let lt = can.row in
    same-kept s was file old new (omega (arith, lt, rows-of old s stands)) is same can.apart bodies rest

pub removed-kept : (s : Standing) (was : PlacedFile) (old new : List ℕ) → Stands old s → was.slot < 256 → row_at s was.slot ≡ Some was
    → IsRowCleared s was.slot old new → kept_at new (with_placed s was.slot None) ≡ with_files (kept_at old s) (drop_file was.id (kept_at old s).files)
removed-kept s was old new stands lt is w =
    let can = standing-apart old s was stands lt is in
    cleared-kept s was.slot was old new (omega (arith, lt, rows-of old s stands)) is can.apart w.bodies

pub body-stands : (s : Standing) (block : ℕ) (body old new : List ℕ) → Stands old s → IsBodyWritten s block body old new → Stands new s
body-stands s block body old new stands w =
    stands-by-tables s old new stands w.rows (tables-by s.tables old new w.no_shorter w.tables)

pub body-written-kept : (s : Standing) (file : PlacedFile) (k block : ℕ) (body old new : List ℕ) → Stands old s → file.slot < 256 → row_at s file.slot
    ≡ Some file → k < length file.blocks → slice_index_or file.blocks k 0 ≡ block → IsBodyWritten s block body old new → kept_at new s
    ≡ with_files (kept_at old s) (with_block (record { file = file.id; block = k; body = body }) (kept_at old s).files)
body-written-kept s file k block body old new stands lt is below at w =
    let can = standing-apart old s file stands lt is in
    let within : file.slot < length s.rows = omega (arith, lt, rows-of old s stands) in
    let Free : ℕ → Type 0 = λ b. IsNoneOf (blocks_in (others file.slot s.rows)) b in
    let own = All-get_or Free file.blocks k 0 below can.free in
    block-kept s file k body old new within is can.apart
    (body-kept s file k block body old new within is below at can.apart can.distinct (subst Free at own) w.body w.bodies)
