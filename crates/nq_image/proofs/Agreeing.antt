-- Bytes that agree where something stands: the same stands in both.
use Rattle.std.proofs.Common.{◌≡◌, ◌≤◌, ◌<◌, ◌+◌, ◌-◌, ◌*◌, inl, inr, ℕ, suc, Bool, true, false, List, [], ◌∷◌, ◌++◌, Option, Some, None, Ok, drop}
use Rattle.std.proofs.Common.{map, length, get_or, if◌then◌else◌, refl, sym, ap, subst, ◌∙◌, arith}
use Rattle.std.specs.List.{All}
use Rattle.std.specs.Prelude.{min, nat_eq, nat_le, nat_lt, slice_index_or}
use Rattle.std.specs.Cmp.Lexicographic.{pointwise}
use Rattle.std.proofs.Math.Nat.{div-add-mod'}
use Rattle.std.proofs.lemmas.Bool.{cases_lt}
use Rattle.std.proofs.lemmas.List.{get_or-drop, get_or_past}
use Rattle.std.proofs.lemmas.List.Elements.{All-cons, All-nil, All-head, All-tail, All-weaker}
use Rattle.nq_model.specs.protocol.Kept.{File, Kept}
use Rattle.nq_image.specs.Check.{Check}
use Rattle.nq_image.specs.Heads.{front_checks, front_of, version_of}
use Rattle.nq_image.specs.Hosts.{hosts_checks, hosts_of}
use Rattle.nq_image.specs.Image.{no_marks}
use Rattle.nq_image.specs.Kept.{body_in}
use Rattle.nq_image.specs.Layout.{are_zeros, block_place, piece, whole_blocks}
use Rattle.nq_image.specs.Rows.{rows_checks, slots_of}
use Rattle.nq_image.specs.Standing.{Agree, HaveSameBlocks, PlacedFile, Standing, Stands, blocks_in, file_at, found_of, kept_at, put_file, row_slot}
use Rattle.nq_image.specs.Standing.{rows_of_image, with_rows}
use Rattle.nq_image.specs.Tables.{held, held_from, ids_checks, ids_of, slot_checks, slot_marks, slot_table, tables_blocks, tables_checks, tables_marks}
use Rattle.nq_image.specs.declared.rows.Slot.{Slot}
use Rattle.nq_image.specs.declared.rows.Version.{Version}
use Rattle.nq_image.proofs.Giving.{IsGiven, IsHeld, given-is-held}
use Rattle.nq_image.proofs.Holding.{length-slots, test-le}
use Rattle.nq_image.proofs.Parting.{BeginsAsTwo, HasParts, image-of-parts, parts-of}
use Rattle.nq_image.proofs.Pieces.{at-piece, piece-by-first}
use Rattle.nq_image.proofs.ReadBack.{Hold, hold-append, le-true}
use Rattle.nq_image.proofs.Tabling.{none-marked}

-- ---- checks of two lists

pub hold-front : (front behind : List Check) → Hold (front ++ behind) → Hold front
hold-front [] behind h = tt
hold-front (c ∷ front) behind h = (h.0, hold-front front behind h.1)

pub hold-behind : (front behind : List Check) → Hold (front ++ behind) → Hold behind
hold-behind [] behind h = h
hold-behind (c ∷ front) behind h = hold-behind front behind h.1

-- ---- tables

pub le-longer : (m n o : ℕ) → n ≤ o → nat_le m n ≡ true → nat_le m o ≡ true
le-longer m n o le h = let a = test-le m n h in le-true m m o refl (omega arith)

pub record AreTablesSame (tables place : ℕ) (slots : List (Option Slot)) (marks : List Bool) (old new : List ℕ) : Type 0 where
  pub holds : Hold (tables_checks tables place slots marks new)
  pub blocks : tables_blocks place slots new ≡ tables_blocks place slots old
  pub marks_same : tables_marks place slots marks new ≡ tables_marks place slots marks old

-- so many blocks from a place on are the same
abbrev pub SameFrom : (place count : ℕ) (old new : List ℕ) → Type 0
SameFrom place count old new = (k : ℕ) → k < count → piece (place + 4096 * k) 4096 new ≡ piece (place + 4096 * k) 4096 old

pub same-first : (place count : ℕ) (old new : List ℕ) → SameFrom place (suc count) old new → piece place 4096 new ≡ piece place 4096 old
same-first place count old new same =
    let e : place + 4096 * 0 ≡ place = omega arith in
    let P : ℕ → Type 0 = λ p. piece p 4096 new ≡ piece p 4096 old in
    subst P e (same 0 (omega arith))

pub same-rest : (place count : ℕ) (old new : List ℕ) → SameFrom place (suc count) old new → SameFrom (place + 4096) count old new
same-rest place count old new same k lt =
    let e : place + 4096 * suc k ≡ place + 4096 + 4096 * k = omega arith in
    let P : ℕ → Type 0 = λ p. piece p 4096 new ≡ piece p 4096 old in
    subst P e (same (suc k) (omega arith))

pub tables-same : (tables place : ℕ) (slots : List (Option Slot)) (marks : List Bool) (old new : List ℕ) → length old ≤ length new
    → SameFrom place (length slots) old new → Hold (tables_checks tables place slots marks old) → AreTablesSame tables place slots marks old new
unfolding tables_checks tables_blocks tables_marks
tables-same tables place [] marks old new longer same hold = record { holds = tt; blocks = refl; marks_same = refl }
tables-same tables place (slot ∷ slots) marks old new longer same hold =
    let table = piece place 4096 old in
    let own = same-first place (length slots) old new same in
    let after = slot_marks slot marks table in
    let front = slot_checks tables place slot marks table in
    let behind = tables_checks tables (place + 4096) slots after old in
    let rest = tables-same tables (place + 4096) slots after old new longer (same-rest place (length slots) old new same) (hold-behind front behind hold.1) in
    let P : List ℕ → Type 0 = λ t. Hold (slot_checks tables place slot marks t ++ tables_checks tables (place + 4096) slots (slot_marks slot marks t) new) in
    record {
      holds = (
        le-longer (place + 4096) (length old) (length new) longer hold.0,
        subst P (sym own) (hold-append front (tables_checks tables (place + 4096) slots after new) (hold-front front behind hold.1) rest.holds),
      );
      blocks = ap (λ (t : List ℕ). slot_table slot t ++ tables_blocks (place + 4096) slots new) own ∙ ap (λ (l : List ℕ). slot_table slot table ++ l)
          rest.blocks;
      marks_same = ap (λ (t : List ℕ). tables_marks (place + 4096) slots (slot_marks slot marks t) new) own ∙ rest.marks_same;
    }

-- ---- what is held

held-whole : (size block : ℕ) → IsHeld size block → block < whole_blocks size
unfolding whole_blocks
held-whole size block here = let e = div-add-mod' (size - 40960) 4096 in omega (arith, e, here)

given-below : (marks : List Bool) (block : ℕ) → IsGiven marks block → block < length marks
given-below marks block given = elim (cases_lt block (length marks)) [
  | inl lt ↦ lt
  | inr le ↦ let past = get_or_past marks block false le in let wrong : true ≡ false = sym given ∙ past in cc
]

not-given : (b : Bool) → (b ≡ true → ⊥) → b ≡ false
not-given true never = absurd (never refl)
not-given false never = refl

pub held-by : (size : ℕ) (marks : List Bool) → ((block : ℕ) → IsGiven marks block → IsHeld size block) → held size marks ≡ Ok tt
unfolding held
held-by size marks each =
    let whole = min (whole_blocks size) (length marks) in
    ap (λ (m : Option ℕ). held_from whole m) (none-marked (drop whole marks) (λ k. get_or-drop whole marks k false ∙ free k))
  where
    beyond : (k : ℕ) → IsGiven marks (min (whole_blocks size) (length marks) + k) → ⊥
    beyond k given =
        let block = min (whole_blocks size) (length marks) + k in
        let a = held-whole size block (each block given) in
        let b = given-below marks block given in
        omega (arith, a, b)

    free : (k : ℕ) → get_or marks (min (whole_blocks size) (length marks) + k) false ≡ false
    free k = not-given (get_or marks (min (whole_blocks size) (length marks) + k) false) (beyond k)

pub held-longer : (old new : ℕ) (marks : List Bool) → old ≤ new → held old marks ≡ Ok tt → held new marks ≡ Ok tt
held-longer old new marks le h = held-by new marks (λ block given. let here = given-is-held old marks block h given in omega (arith, le, here))

-- ---- the parts that agree

pub record HaveSameTables (tables : ℕ) (old new : List ℕ) : Type 0 where
  pub no_shorter : length old ≤ length new
  pub each : SameFrom (block_place tables) 256 old new
  pub ids : piece (block_place tables + 1048576) 4096 new ≡ piece (block_place tables + 1048576) 4096 old

pub tables-by : (tables : ℕ) (old new : List ℕ) → length old ≤ length new → ((n : ℕ) → n < 257 → body_in new (tables + n) ≡ body_in old (tables + n))
    → HaveSameTables tables old new
tables-by tables old new longer same = record {
  no_shorter = longer;
  each = at;
  ids = last;
}
  where
    at : SameFrom (block_place tables) 256 old new
    at k lt =
        let e : block_place (tables + k) ≡ block_place tables + 4096 * k = omega arith in
        let P : ℕ → Type 0 = λ p. piece p 4096 new ≡ piece p 4096 old in
        subst P e (same k (omega arith))

    last : piece (block_place tables + 1048576) 4096 new ≡ piece (block_place tables + 1048576) 4096 old
    last =
        let e : block_place (tables + 256) ≡ block_place tables + 1048576 = omega arith in
        let P : ℕ → Type 0 = λ p. piece p 4096 new ≡ piece p 4096 old in
        subst P e (same 256 (omega arith))

pub same-tables : (s : Standing) (old new : List ℕ) → HaveSameBlocks s old new → HaveSameTables s.tables old new
same-tables s old new same = tables-by s.tables old new same.no_shorter same.tables

eighth : (old new : List ℕ) → piece 0 8 new ≡ piece 0 8 old → slice_index_or new 7 0 ≡ slice_index_or old 7 0
eighth old new same = sym (at-piece 0 8 7 new (omega arith)) ∙ ap (λ (b : List ℕ). get_or b 7 0) same ∙ at-piece 0 8 7 old (omega arith)

pub begins-same : (old new : List ℕ) → length old ≤ length new → piece 0 8 new ≡ piece 0 8 old → BeginsAsTwo old → BeginsAsTwo new
begins-same old new longer same b =
    let Named : List ℕ → Type 0 = λ part. pointwise nat_eq part (78 ∷ 81 ∷ 78 ∷ 70 ∷ 83 ∷ 73 ∷ 77 ∷ []) ≡ true in
    let Two : ℕ → Type 0 = λ byte. version_of byte ≡ Some Version.Two in
    record {
      long = let a = b.long in omega arith;
      name = subst Named (sym (piece-by-first 8 0 7 new old (omega arith) same)) b.name;
      version = subst Two (sym (eighth old new same)) b.version;
    }

-- ---- the law of free bytes

agree-parts : (s : Standing) (old new : List ℕ) → length (map row_slot s.rows) ≡ 256 → rows_of_image new ≡ rows_of_image old → HaveSameTables s.tables
    old new → HasParts old (found_of s) → HasParts new (found_of s)
agree-parts s old new all same_rows blocks p =
    let longer = blocks.no_shorter in
    let place = block_place s.tables in
    let slots = map row_slot s.rows in
    let front = piece-by-first 28672 0 64 new old (omega arith) same_rows in
    let hosts = piece-by-first 28672 64 2048 new old (omega arith) same_rows in
    let rows = piece-by-first 28672 2112 24576 new old (omega arith) same_rows in
    let gap = piece-by-first 28672 26688 1984 new old (omega arith) same_rows in
    let From : ℕ → Type 0 = λ n. SameFrom place n old new in
    let tables = tables-same s.tables place slots (no_marks 16641) old new longer (subst From (sym all) blocks.each) p.tables in
    let Front : List ℕ → Type 0 = λ b. Hold (front_checks b) in
    let FrontIs : List ℕ → Type 0 = λ b. front_of b ≡ (found_of s).front in
    let Hosts : List ℕ → Type 0 = λ b. Hold (hosts_checks 64 64 b) in
    let HostsAre : List ℕ → Type 0 = λ b. hosts_of 64 b ≡ s.hosts in
    let Rows : List ℕ → Type 0 = λ b. Hold (rows_checks Version.Two 256 2112 [] b) in
    let RowsAre : List ℕ → Type 0 = λ b. slots_of 256 b ≡ slots in
    let Gap : List ℕ → Type 0 = λ b. are_zeros b ≡ true in
    let Ids : List ℕ → Type 0 = λ b. Hold (ids_checks s.heads.next (place + 1048576) [] slots b) in
    let IdsAre : List ℕ → Type 0 = λ b. ids_of slots b ≡ (found_of s).tables.ids in
    record {
      front = subst Front (sym front) p.front;
      front_is = subst FrontIs (sym front) p.front_is;
      hosts = subst Hosts (sym hosts) p.hosts;
      hosts_are = subst HostsAre (sym hosts) p.hosts_are;
      rows = subst Rows (sym rows) p.rows;
      rows_are = subst RowsAre (sym rows) p.rows_are;
      gap = subst Gap (sym gap) p.gap;
      tables = tables.holds;
      blocks_are = tables.blocks ∙ p.blocks_are;
      marks_are = tables.marks_same ∙ p.marks_are;
      ids_whole = let whole = p.ids_whole in omega (arith, whole, longer);
      ids = subst Ids (sym blocks.ids) p.ids;
      ids_are = subst IdsAre (sym blocks.ids) p.ids_are;
      held_all = held-longer (length old) (length new) (found_of s).tables.marks longer p.held_all;
    }

-- an image has 256 rows of files
pub all-rows : (s : Standing) (bytes : List ℕ) → HasParts bytes (found_of s) → length (map row_slot s.rows) ≡ 256
all-rows s bytes p = ap length (sym p.rows_are) ∙ length-slots 256 (piece 2112 24576 bytes)

pub stands-by-tables : (s : Standing) (old new : List ℕ) → Stands old s → rows_of_image new ≡ rows_of_image old → HaveSameTables s.tables old new
    → Stands new s
stands-by-tables s old new stands same_rows tables =
    let image = parts-of old (found_of s) stands.found in
    let first = piece-by-first 28672 0 8 new old (omega arith) same_rows in
    record {
      found = image-of-parts new (found_of s) (begins-same old new tables.no_shorter first image.begins)
          (agree-parts s old new (all-rows s old image.parts) same_rows tables image.parts);
      numbered = stands.numbered;
    }

pub agree-stands : (s : Standing) (old new : List ℕ) → Stands old s → Agree s old new → Stands new s
agree-stands s old new stands agree = stands-by-tables s old new stands agree.rows (same-tables s old new agree.blocks)

-- ---- what is kept

pub all-put : (P : PlacedFile → Type 0) (x : PlacedFile) (files : List PlacedFile) → P x → All P files → All P (put_file x files)
all-put P x [] own all = All-cons P x [] own (All-nil P)
all-put P x (f ∷ files) own all =
    either (nat_lt x.id f.id) (All-cons P x (f ∷ files) own all) (All-cons P f (put_file x files) (All-head P f files all)
    (all-put P x files own (All-tail P f files all)))
  where
    either : (b : Bool) → All P (x ∷ f ∷ files) → All P (f ∷ put_file x files) → All P (if b then x ∷ f ∷ files else f ∷ put_file x files)
    either true a c = a
    either false a c = c

pub all-front : {X : Type 0} (P : X → Type 0) (xs ys : List X) → All P (xs ++ ys) → All P xs
all-front P [] ys all = All-nil P
all-front P (x ∷ xs) ys all = All-cons P x xs (All-head P x (xs ++ ys) all) (all-front P xs ys (All-tail P x (xs ++ ys) all))

pub all-rest : {X : Type 0} (P : X → Type 0) (xs ys : List X) → All P (xs ++ ys) → All P ys
all-rest P [] ys all = all
all-rest P (x ∷ xs) ys all = all-rest P xs ys (All-tail P x (xs ++ ys) all)

-- what holds of the blocks of all rows holds of those of each file
pub each-block : (P : ℕ → Type 0) (files : List PlacedFile) (rows : List (Option PlacedFile)) → All (λ f. All P f.blocks) files
    → All P (blocks_in rows) → All (λ f. All P f.blocks) (with_rows files rows)
unfolding blocks_in with_rows
each-block P files [] done all = done
each-block P files (None ∷ rows) done all = each-block P files rows done all
each-block P files (Some file ∷ rows) done all =
    each-block P (put_file file files) rows (all-put (λ f. All P f.blocks) file files (all-front P file.blocks (blocks_in rows) all) done)
    (all-rest P file.blocks (blocks_in rows) all)

pub map-same : {X Y : Type 0} (f g : X → Y) (xs : List X) → All (λ x. f x ≡ g x) xs → map f xs ≡ map g xs
map-same f g [] all = refl
map-same f g (x ∷ xs) all = let a = All-head (λ y. f y ≡ g y) x xs all in let b = map-same f g xs (All-tail (λ y. f y ≡ g y) x xs all) in cc

-- a file whose bodies are the same
pub same-file : (old new : List ℕ) (file : PlacedFile) → All (λ block. body_in new block ≡ body_in old block) file.blocks → file_at new file ≡ file_at old file
unfolding file_at
same-file old new file all =
    let made : List (List ℕ) → File = λ bodies. record { id = file.id; name = file.name; rev = file.rev; bodies = bodies } in
    ap made (map-same (body_in new) (body_in old) file.blocks all)

pub same-files : (old new : List ℕ) (rows : List (Option PlacedFile)) → All (λ block. body_in new block ≡ body_in old block) (blocks_in rows)
    → map (file_at new) (with_rows [] rows) ≡ map (file_at old) (with_rows [] rows)
same-files old new rows all =
    let Same : ℕ → Type 0 = λ block. body_in new block ≡ body_in old block in
    let each = each-block Same [] rows (All-nil (λ f. All Same f.blocks)) all in
    map-same (file_at new) (file_at old) (with_rows [] rows) (All-weaker (λ f. All Same f.blocks) (λ f. file_at new f ≡ file_at old f)
    (λ f own. same-file old new f own) (with_rows [] rows) each)

pub agree-kept : (s : Standing) (old new : List ℕ) → HaveSameBlocks s old new → kept_at new s ≡ kept_at old s
unfolding kept_at
agree-kept s old new same =
    let made : List File → Kept = λ files. record {
      files = files;
      hosts = s.hosts;
      boot = s.heads.boot;
      opened = s.heads.opened;
      longest =
          s.heads.longest;
      next = s.heads.next;
    } in
    ap made (same-files old new s.rows same.bodies)
