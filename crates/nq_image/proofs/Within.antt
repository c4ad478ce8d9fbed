-- What opens is within the bounds of a kept state.
use Rattle.std.proofs.Common.{◌≡◌, ◌≤◌, ◌<◌, ◌^◌, ◌+◌, ◌==◌, ◌&&◌, ℕ, Bool, true, false, List, [], ◌∷◌, ◌++◌, Option, Some, None, Result, Ok, Err}
use Rattle.std.proofs.Common.{map, take, drop, length, if◌then◌else◌, refl, sym, ap, subst, ◌∙◌, arith, length-append, length-drop}
use Rattle.std.specs.List.{All, list_any, sum_by}
use Rattle.std.specs.Prelude.{nat_le, slice_index_or}
use Rattle.std.proofs.lemmas.Bool.Decides.{nat_tests}
use Rattle.std.proofs.lemmas.List.{append_assoc, length-map, length-replicate, length-take-le}
use Rattle.std.proofs.lemmas.List.Elements.{All-append, All-cons, All-nil, All-head, All-tail, All-weaker, All-map, All-take, All-drop}
use Rattle.std.proofs.lemmas.List.Folds.{list_any_none}
use Rattle.std.proofs.lemmas.List.Sums.{sum_by-append, sum_by-cons}
use Rattle.nq_base.specs.declared.HostRow.{HostRow}
use Rattle.nq_model.specs.protocol.Change.{AreApart, IsBody, IsFileWithin, IsHostWithin, IsWithinBounds}
use Rattle.nq_model.specs.protocol.Kept.{File, Kept, blocks_in_all, blocks_of as length_of, find_name}
use Rattle.nq_model.specs.protocol.Profile.{same_bytes}
use Rattle.nq_image.specs.Bounds.{AreBytes}
use Rattle.nq_image.specs.Check.{check, tested}
use Rattle.nq_image.specs.Heads.{boots_checks, boots_of, front_checks, front_of, version_of}
use Rattle.nq_image.specs.Hosts.{hosts_checks, hosts_of}
use Rattle.nq_image.specs.Image.{FoundOne, FoundRows, FoundTables, FoundTwo, ◌>>=◌, ids_in, image_one, image_two, no_marks, reached, rows_in, tables_in}
use Rattle.nq_image.specs.Kept.{FoundKept, body_in, file_in, files_of, found_file, found_kept, heads_one, heads_two, kept_in, kept_one, kept_two}
use Rattle.nq_image.specs.Kept.{numbers_from, opened, stands_for, with_slot}
use Rattle.nq_image.specs.Layout.{are_zeros, block_place, piece, whole_blocks, word_in}
use Rattle.nq_image.specs.Rows.{blocks_of, is_named, is_unused, rows_checks, slots_of}
use Rattle.nq_image.specs.Tables.{held, ids_checks, ids_of, tables_blocks, tables_checks, tables_marks}
use Rattle.nq_image.specs.Whole.{Found, of_one, of_two, has_image_name, image_in, in_version, in_versions}
use Rattle.nq_image.specs.declared.heads.Boots.{Boots}
use Rattle.nq_image.specs.declared.heads.Front.{Front}
use Rattle.nq_image.specs.declared.kept.FoundFile.{FoundFile}
use Rattle.nq_image.specs.declared.rows.Slot.{Slot}
use Rattle.nq_image.specs.declared.rows.Version.{Version}
use Rattle.nq_image.proofs.Checks.{tested-value}
use Rattle.nq_image.proofs.Filing.{AreFilesRight, AreInRow, IsBefore, IsFileRight, files-right, insert-is-put, length-put, own_blocks}
use Rattle.nq_image.proofs.Giving.{IsGiven, IsHeld, given-is-held, length-numbers, numbers-below, tables-give, tables-length-blocks, whole-is-held}
use Rattle.nq_image.proofs.Holding.{AreIdsRight, AreRowsRight, IsIdRight, IsRowRight, Right, all-right, hosts-within, ids-right, length-hosts}
use Rattle.nq_image.proofs.Holding.{length-slots, rows-right, test-le, test-lt}

-- ---- the files with their bodies

each-two : (a b : Bool) → (a && b) ≡ true → (a ≡ true) × (b ≡ true)
each-two true b h = (refl, h)
each-two false b h = cc

same-bytes-are : (a b : List ℕ) → same_bytes a b ≡ true → a ≡ b
same-bytes-are [] [] h = refl
same-bytes-are [] (y ∷ ys) h = cc
same-bytes-are (x ∷ xs) [] h = cc
same-bytes-are (x ∷ xs) (y ∷ ys) h =
    let two = each-two (x == y) (same_bytes xs ys) h in
    let first = two.0 in
    let here : x ≡ y = grind (arith, nat_tests) in
    let rest = same-bytes-are xs ys two.1 in
    cc

other-by : (a b : List ℕ) (c : Bool) → same_bytes a b ≡ c → (a ≡ b → ⊥) → c ≡ false
other-by a b true is other = absurd (other (same-bytes-are a b is))
other-by a b false is other = refl

none-step : (c : Bool) (file : File) (rest : Option File) → c ≡ false → rest ≡ None → (if c then Some file else rest) ≡ None
none-step true file rest is none = cc
none-step false file rest is none = none

none-named : (bytes blocks : List ℕ) (own : FoundFile) (files : List FoundFile) → All (IsBefore own) files → find_name own.row.name
    (map (file_in bytes blocks) files) ≡ None
none-named bytes blocks own [] all = refl
none-named bytes blocks own (f ∷ files) all =
    let before = All-head (IsBefore own) f files all in
    none-step (same_bytes f.row.name own.row.name) (file_in bytes blocks f) (find_name own.row.name (map (file_in bytes blocks) files))
    (other-by f.row.name own.row.name (same_bytes f.row.name own.row.name) refl (λ e. before.1 (sym e)))
    (none-named bytes blocks own files (All-tail (IsBefore own) f files all))

apart-files : (bytes blocks : List ℕ) (files : List FoundFile) → AreInRow files → AreApart (map (file_in bytes blocks) files)
apart-files bytes blocks [] row = tt
apart-files bytes blocks (f ∷ files) row = (
  All-map (λ later. f.row.id < later.id) (file_in bytes blocks) files (All-weaker (IsBefore f) (λ later. f.row.id < later.row.id) (λ later before.
      before.0) files row.0),
  none-named bytes blocks f files row.0,
  apart-files bytes blocks files row.1,
)

body-is : (bytes : List ℕ) (block : ℕ) → AreBytes bytes → IsHeld (length bytes) block → IsBody (body_in bytes block)
unfolding piece
body-is bytes block all here = record {
  size = length-take-le 4096 (drop (block_place block) bytes) (omega (arith, length-drop (block_place block) bytes));
  bytes = All-take (λ b. b < 256) 4096 (drop (block_place block) bytes) (All-drop (λ b. b < 256) (block_place block) bytes all);
}

-- what is known of the files and blocks of an image
pub record AreFilesHeld (bytes : List ℕ) (next : ℕ) (blocks : List ℕ) (files : List FoundFile) : Type 0 where
  pub right : All (IsFileRight next (length blocks)) files
  pub row : AreInRow files
  pub few : length files ≤ 256
  pub sum : sum_by own_blocks files ≤ 16384
  pub whole : All (IsHeld (length bytes)) blocks

length-bodies : (bytes blocks : List ℕ) (f : FoundFile) → f.start + f.row.blocks ≤ length blocks → length_of (file_in bytes blocks f) ≡ f.row.blocks
length-bodies bytes blocks f within =
    length-map (take f.row.blocks (drop f.start blocks)) (body_in bytes) ∙ length-take-le f.row.blocks (drop f.start blocks)
    (omega (arith, length-drop f.start blocks))

file-within : (bytes blocks : List ℕ) (next : ℕ) (f : FoundFile) → AreBytes bytes → All (IsHeld (length bytes)) blocks
    → IsFileRight next (length blocks) f → IsFileWithin next (file_in bytes blocks f)
file-within bytes blocks next f all whole right =
    let long = length-bodies bytes blocks f right.within in
    let own = take f.row.blocks (drop f.start blocks) in
    record {
      from_one = right.from_one;
      below_next = right.below_next;
      name = right.name;
      rev = right.rev;
      not_empty = let a = right.not_empty in omega (arith, long);
      short = let a = right.short in omega (arith, long);
      bodies = All-map IsBody (body_in bytes) own
          (All-weaker (IsHeld (length bytes)) (λ block. IsBody (body_in bytes block)) (λ block here. body-is bytes block all here) own
          (All-take (IsHeld (length bytes)) f.row.blocks (drop f.start blocks) (All-drop (IsHeld (length bytes)) f.start blocks whole)));
    }

sum-files : (bytes blocks : List ℕ) (next : ℕ) (files : List FoundFile) → All (IsFileRight next (length blocks)) files
    → blocks_in_all (map (file_in bytes blocks) files) ≡ sum_by own_blocks files
sum-files bytes blocks next [] right = refl
sum-files bytes blocks next (f ∷ files) right =
    let one = length-bodies bytes blocks f (All-head (IsFileRight next (length blocks)) f files right).within in
    let rest = sum-files bytes blocks next files (All-tail (IsFileRight next (length blocks)) f files right) in
    omega (arith, one, rest, sum_by-cons own_blocks f files, sum_by-cons length_of (file_in bytes blocks f) (map (file_in bytes blocks) files))

-- what is known of the numbers of an image
pub record AreHeadsRight (boot opened longest next : ℕ) : Type 0 where
  pub opened_before : opened ≤ boot
  pub boots : boot < 2 ^ 31
  pub long : 5 ≤ longest
  pub short : longest ≤ 600
  pub ids : 1 ≤ next
  pub few_ids : next ≤ 2147483648

kept-within : (bytes : List ℕ) (found : FoundKept) → AreBytes bytes → AreHeadsRight found.heads.boot found.heads.opened found.heads.longest
    found.heads.next → All IsHostWithin found.hosts → length found.hosts ≡ 64 → AreFilesHeld bytes found.heads.next found.blocks found.files
    → IsWithinBounds (kept_in bytes found)
unfolding kept_in
kept-within bytes found all heads hosts every files = record {
  files = All-map (IsFileWithin found.heads.next) (file_in bytes found.blocks) found.files
      (All-weaker (IsFileRight found.heads.next (length found.blocks)) (λ f. IsFileWithin found.heads.next (file_in bytes found.blocks f))
      (λ f right. file-within bytes found.blocks found.heads.next f all files.whole right) found.files files.right);
  apart = apart-files bytes found.blocks found.files files.row;
  few_files = let a = files.few in omega (arith, length-map found.files (file_in bytes found.blocks));
  few_blocks = let a = files.sum in omega (arith, sum-files bytes found.blocks found.heads.next found.files files.right);
  hosts = hosts;
  all_hosts = every;
  opened = heads.opened_before;
  boot = heads.boots;
  long = heads.long;
  short = heads.short;
  ids = heads.ids;
  few_ids = heads.few_ids;
}

-- ---- the rows

few-rows : (version : Version) (before slots : List (Option Slot)) → AreRowsRight version before slots → sum_by blocks_of before ≤ 16384
    → sum_by blocks_of (before ++ slots) ≤ 16384
few-rows version before [] right few = let e = sum_by-append blocks_of before [] in omega (arith, e, few)
few-rows version before (None ∷ slots) right few =
    let P : List (Option Slot) → Type 0 = λ all. sum_by blocks_of all ≤ 16384 in
    subst P (append_assoc before (None ∷ []) slots) (few-rows version (before ++ None ∷ []) slots right.1
    (omega (arith, few, sum_by-append blocks_of before (None ∷ []))))
few-rows version before (Some slot ∷ slots) right few =
    let P : List (Option Slot) → Type 0 = λ all. sum_by blocks_of all ≤ 16384 in
    let own = right.0.few in
    subst P (append_assoc before (Some slot ∷ []) slots) (few-rows version (before ++ Some slot ∷ []) slots right.1
    (omega (arith, own, sum_by-append blocks_of before (Some slot ∷ []))))

-- what is known of the rows of an image
pub record AreRowsWithin (version : Version) (rows : FoundRows) : Type 0 where
  pub hosts : All IsHostWithin rows.hosts
  pub all_hosts : length rows.hosts ≡ 64
  pub right : AreRowsRight version [] rows.slots
  pub all_slots : length rows.slots ≡ 256

pub then-ok : {A B : Type 0} (r : Result A ℕ) (f : A → Result B ℕ) (z : B) → (r >>= f) ≡ Ok z → (x : A) × (r ≡ Ok x) × (f x ≡ Ok z)
then-ok (Ok x) f z h = (x, refl, h)
then-ok (Err p) f z h = cc

pub if-ok : {A : Type 0} (b : Bool) (x z : A) (p : ℕ) → (if b then Ok x else Err p) ≡ Ok z → (b ≡ true) × (x ≡ z)
if-ok true x z p h = (refl, cc)
if-ok false x z p h = cc

rows-within : (version : Version) (bytes : List ℕ) (rows : FoundRows) → AreBytes bytes → rows_in version bytes ≡ Ok rows → AreRowsWithin version rows
unfolding rows_in piece
rows-within version bytes rows all h =
    let host_bytes = take 2048 (drop 64 bytes) in
    let file_bytes = take 24576 (drop 2112 bytes) in
    let made : List HostRow → List (Option Slot) → FoundRows = λ hosts slots. record { hosts = hosts; slots = slots } in
    let zeros = are_zeros (take 1984 (drop 26688 bytes)) in
    let file_rows = tested (rows_checks version 256 2112 [] file_bytes) (slots_of 256 file_bytes) in
    let one = then-ok (tested (hosts_checks 64 64 host_bytes) (hosts_of 64 host_bytes)) (λ hosts. file_rows >>= λ slots. if zeros
    then Ok (made hosts slots) else Err 26688) rows h in
    let two = then-ok file_rows (λ slots. if zeros then Ok (made one.0 slots) else Err 26688) rows one.2 in
    let three = if-ok zeros (made one.0 two.0) rows 26688 two.2 in
    let P : FoundRows → Type 0 = λ found. AreRowsWithin version found in
    let hosts = tested-value (hosts_checks 64 64 host_bytes) (hosts_of 64 host_bytes) one.0 one.1 in
    let slots = tested-value (rows_checks version 256 2112 [] file_bytes) (slots_of 256 file_bytes) two.0 two.1 in
    subst P three.1 (record {
      hosts = subst (λ (x : List HostRow). All IsHostWithin x) hosts (hosts-within 64 64 host_bytes (All-take (λ b. b < 256) 2048 (drop 64 bytes)
          (All-drop (λ b. b < 256) 64 bytes all)) (all-right (hosts_checks 64 64 host_bytes) (hosts_of 64 host_bytes) one.0 one.1));
      all_hosts = ap length (sym hosts) ∙ length-hosts 64 host_bytes;
      right = subst (λ (x : List (Option Slot)). AreRowsRight version [] x) slots (rows-right version 256 2112 [] file_bytes
          (all-right (rows_checks version 256 2112 [] file_bytes) (slots_of 256 file_bytes) two.0 two.1));
      all_slots = ap length (sym slots) ∙ length-slots 256 file_bytes;
    })

-- ---- files of rows

nothing-yet : (next total : ℕ) → AreFilesRight next total [] [] []
nothing-yet next total = record {
  right = All-nil (IsFileRight next total);
  row = tt;
  named = All-nil (λ f. is_named f.row.name [] ≡ true);
  known_ids = All-nil (λ f. list_any (λ k. k == f.row.id) [] ≡ true);
  few = omega arith;
  blocks = refl;
}

files-held : (version : Version) (bytes : List ℕ) (next : ℕ) (slots : List (Option Slot)) (ids blocks : List ℕ) → AreRowsRight version [] slots
    → length slots ≡ 256 → AreIdsRight next [] slots ids → length blocks ≡ sum_by blocks_of slots → All (IsHeld (length bytes)) blocks
    → AreFilesHeld bytes next blocks (files_of [] 0 slots ids)
files-held version bytes next slots ids blocks right all own long whole =
    let so = (files-right version next (length blocks) 0 [] [] slots ids [] right own (omega (arith, long)) (nothing-yet next (length blocks))).1 in
    let few = few-rows version [] slots right (omega arith) in
    let a = so.few in
    let b = so.blocks in
    record { right = so.right; row = so.row; few = omega (arith, a, all); sum = omega (arith, b, few); whole = whole }

-- ---- version 2

ok-is : {A : Type 0} (x z : A) (r : Result A ℕ) → r ≡ Ok x → r ≡ Ok z → x ≡ z
ok-is x z r is h = cc

front-right : (front : List ℕ) → All Right (front_checks front) → AreHeadsRight (front_of front).boot (front_of front).opened (front_of front).longest
    (front_of front).next
unfolding front_of
front-right front h =
    let term = each-two (nat_le 5 (word_in 16 front)) (nat_le (word_in 16 front) 600) (h 2 (check 0 true) (omega arith)) in
    let ids = each-two (nat_le 1 (word_in 20 front)) (nat_le (word_in 20 front) 2147483648) (h 3 (check 0 true) (omega arith)) in
    record {
      opened_before = test-le (word_in 12 front) (word_in 8 front) (h 1 (check 0 true) (omega arith));
      boots = test-lt (word_in 8 front) 2147483648 (h 0 (check 0 true) (omega arith));
      long = test-le 5 (word_in 16 front) term.0;
      short = test-le (word_in 16 front) 600 term.1;
      ids = test-le 1 (word_in 20 front) ids.0;
      few_ids = test-le (word_in 20 front) 2147483648 ids.1;
    }

-- what is known of the tables of an image
pub record AreTablesRight (next : ℕ) (slots : List (Option Slot)) (bytes : List ℕ) (tables : FoundTables) : Type 0 where
  pub ids : AreIdsRight next [] slots tables.ids
  pub all_blocks : length tables.blocks ≡ sum_by blocks_of slots
  pub whole : All (IsHeld (length bytes)) tables.blocks

ids-in-right : (place next : ℕ) (slots : List (Option Slot)) (bytes ids : List ℕ) (b : Bool)
    → (if b then tested (ids_checks next place [] slots (piece place 4096 bytes)) (ids_of slots (piece place 4096 bytes)) else Err place) ≡ Ok ids
    → AreIdsRight next [] slots ids
ids-in-right place next slots bytes ids true h =
    let block = piece place 4096 bytes in
    let checks = ids_checks next place [] slots block in
    subst (AreIdsRight next [] slots) (tested-value checks (ids_of slots block) ids h) (ids-right next place [] slots block
    (all-right checks (ids_of slots block) ids h))
ids-in-right place next slots bytes ids false h = cc

held-ok : (r : Result Unit ℕ) (x : Unit {0}) → r ≡ Ok x → r ≡ Ok tt
held-ok r x h = h

tables-right : (front : Front) (slots : List (Option Slot)) (marks : List Bool) (bytes : List ℕ) (tables : FoundTables) → length marks ≡ 16641
    → tables_in front slots marks bytes ≡ Ok tables → AreTablesRight front.next slots bytes tables
unfolding tables_in
tables-right front slots marks bytes tables size h =
    let place = block_place front.tables in
    let checks = tables_checks front.tables place slots marks bytes in
    let blocks = tables_blocks place slots bytes in
    let last = tables_marks place slots marks bytes in
    let made : List ℕ → List ℕ → FoundTables = λ own ids. record { ids = ids; blocks = own; marks = last } in
    let one = then-ok (tested checks blocks) (λ own. ids_in (place + 1048576) front.next slots bytes >>= λ ids. held (length bytes) last >>= λ holds.
    Ok (made own ids)) tables h in
    let two = then-ok (ids_in (place + 1048576) front.next slots bytes) (λ ids. held (length bytes) last >>= λ holds. Ok (made one.0 ids)) tables one.2 in
    let three = then-ok (held (length bytes) last) (λ holds. Ok (made one.0 two.0)) tables two.2 in
    let same = ok-is (made one.0 two.0) tables (Ok (made one.0 two.0)) refl three.2 in
    let given = tested-value checks blocks one.0 one.1 in
    let right = all-right checks blocks one.0 one.1 in
    let holds = held-ok (held (length bytes) last) three.0 three.1 in
    let whole = All-weaker (IsGiven last) (IsHeld (length bytes)) (λ block own. given-is-held (length bytes) last block holds own) blocks
    (tables-give front.tables place slots marks bytes size right) in
    subst (AreTablesRight front.next slots bytes) same (record {
      ids = ids-in-right (place + 1048576) front.next slots bytes two.0 (nat_le (place + 1048576 + 4096) (length bytes)) two.1;
      all_blocks = ap length (sym given) ∙ tables-length-blocks place slots bytes;
      whole = subst (All (IsHeld (length bytes))) given whole;
    })

no-marks-length : (count : ℕ) → length (no_marks count) ≡ count
unfolding no_marks
no-marks-length count = length-replicate {A = Bool} count false

two-within : (bytes : List ℕ) (front : Front) (rows : FoundRows) (tables : FoundTables) → AreBytes bytes → AreHeadsRight front.boot front.opened
    front.longest front.next → AreRowsWithin Version.Two rows → AreTablesRight front.next rows.slots bytes tables
    → IsWithinBounds (kept_in bytes (kept_two (record { front = front; rows = rows; tables = tables })))
unfolding kept_two
two-within bytes front rows tables all heads within right =
    kept-within bytes (record { heads = heads_two front; hosts = rows.hosts; files = files_of [] 0 rows.slots tables.ids; blocks = tables.blocks })
    all heads within.hosts within.all_hosts
    (files-held Version.Two bytes front.next rows.slots tables.ids tables.blocks within.right within.all_slots right.ids right.all_blocks right.whole)

image-two-by : (marks : List Bool) (bytes : List ℕ) (found : FoundTwo) → AreBytes bytes → length marks ≡ 16641 → image_two marks bytes ≡ Ok found
    → IsWithinBounds (kept_in bytes (kept_two found))
unfolding image_two
image-two-by marks bytes found all size h =
    let start = piece 0 64 bytes in
    let made : Front → FoundRows → FoundTables → FoundTwo = λ front rows tables. record { front = front; rows = rows; tables = tables } in
    let one = then-ok (tested (front_checks start) (front_of start)) (λ front. rows_in Version.Two bytes >>= λ rows. tables_in front rows.slots marks
    bytes >>= λ tables. Ok (made front rows tables)) found h in
    let two = then-ok (rows_in Version.Two bytes) (λ rows. tables_in one.0 rows.slots marks bytes >>= λ tables. Ok (made one.0 rows tables)) found one.2 in
    let three = then-ok (tables_in one.0 two.0.slots marks bytes) (λ tables. Ok (made one.0 two.0 tables)) found two.2 in
    let same = ok-is (made one.0 two.0 three.0) found (Ok (made one.0 two.0 three.0)) refl three.2 in
    let front = tested-value (front_checks start) (front_of start) one.0 one.1 in
    let Numbers : Front → Type 0 = λ f. AreHeadsRight f.boot f.opened f.longest f.next in
    let heads = subst Numbers front (front-right start (all-right (front_checks start) (front_of start) one.0 one.1)) in
    let Holds : FoundTwo → Type 0 = λ f. IsWithinBounds (kept_in bytes (kept_two f)) in
    subst Holds same (two-within bytes one.0 two.0 three.0 all heads (rows-within Version.Two bytes two.0 all two.1) (tables-right one.0 two.0.slots
    marks bytes three.0 size three.1))

image-two-within : (bytes : List ℕ) (found : FoundTwo) → AreBytes bytes → image_two (no_marks 16641) bytes ≡ Ok found
    → IsWithinBounds (kept_in bytes (kept_two found))
image-two-within bytes found all h = image-two-by (no_marks 16641) bytes found all (no-marks-length 16641) h

-- ---- version 1

-- how many of these rows are used
abbrev used_of : Option Slot → ℕ
used_of None = 0
used_of (Some slot) = 1

one-more-file : (slot : Option Slot) (id start : ℕ) (files : List FoundFile) → length (with_slot id start slot files) ≡ length files + used_of slot
one-more-file None id start files = omega arith
one-more-file (Some slot) id start files =
    let x = found_file id start slot in ap length (insert-is-put id x files) ∙ length-put id x files

length-files : (files : List FoundFile) (start : ℕ) (slots : List (Option Slot)) (ids : List ℕ) → length (files_of files start slots ids)
    ≡ length files + sum_by used_of slots
unfolding files_of
length-files files start [] ids = omega arith
length-files files start (slot ∷ slots) ids =
    let a = length-files (with_slot (slice_index_or ids 0 0) start slot files) (start + blocks_of slot) slots (drop 1 ids) in
    let b = one-more-file slot (slice_index_or ids 0 0) start files in
    omega (arith, a, b, sum_by-cons used_of slot slots)

no-unused : (slots : List (Option Slot)) → list_any is_unused slots ≡ false → sum_by used_of slots ≡ length slots
no-unused [] h = refl
no-unused (None ∷ slots) h = cc
no-unused (Some slot ∷ slots) h = let rest = no-unused slots h in omega (arith, rest, sum_by-cons used_of (Some slot) slots)

not-known : (known : List ℕ) (n id : ℕ) → All (λ k. k ≤ n) known → n < id → list_any (λ k. k == id) known ≡ false
not-known known n id all lt =
    list_any_none (λ k. k == id) known (All-weaker (λ k. k ≤ n) (λ k. (k == id) ≡ false) (λ k le. other k id (omega arith)) known all)
  where
    other : (k id : ℕ) → k < id → (k == id) ≡ false
    other k id lt = grind (arith, nat_tests)

numbers-right : (next : ℕ) (before : List (Option Slot)) (known : List ℕ) (slots : List (Option Slot)) → AreRowsRight Version.One before slots
    → All (λ k. k ≤ length before) known → sum_by used_of before + sum_by used_of slots + 1 ≤ next → AreIdsRight next known slots
    (numbers_from (length before + 1) (length slots))
unfolding numbers_from
numbers-right next before known [] right all sum = tt
numbers-right next before known (slot ∷ slots) right all sum =
    let id = length before + 1 in
    let long = length-append before (slot ∷ []) in
    let wider = All-weaker (λ k. k ≤ length before) (λ k. k ≤ length (before ++ slot ∷ [])) (λ k le. omega (arith, le, long)) known all in
    let more = All-append (λ k. k ≤ length (before ++ slot ∷ [])) known (id ∷ []) wider (All-cons (λ k. k ≤ length (before ++ slot ∷ [])) id []
    (omega (arith, long)) (All-nil (λ k. k ≤ length (before ++ slot ∷ [])))) in
    let same : length (before ++ slot ∷ []) + 1 ≡ id + 1 = omega (arith, long) in
    let rest = numbers-right next (before ++ slot ∷ []) (known ++ id ∷ []) slots right.1 more
    (omega (arith, sum, sum_by-append used_of before (slot ∷ []), sum_by-cons used_of slot slots)) in
    let P : ℕ → Type 0 = λ n. AreIdsRight next (known ++ id ∷ []) slots (numbers_from n (length slots)) in
    (own-id next before known slot slots right.0 all sum, subst P same rest)
  where
    own-id : (next : ℕ) (before : List (Option Slot)) (known : List ℕ) (slot : Option Slot) (slots : List (Option Slot)) → IsRowRight Version.One
        before slot → All (λ k. k ≤ length before) known → sum_by used_of before + sum_by used_of (slot ∷ slots) + 1 ≤ next → IsIdRight next known
        slot (length before + 1)
    own-id next before known None slots right all sum = tt
    own-id next before known (Some slot) slots right all sum =
        let used = no-unused before right.not_shut in (
          omega arith,
          omega (arith, sum, used, sum_by-cons used_of (Some slot) slots),
          not-known known (length before) (length before + 1) all (omega arith),
        )

boots-right : (front : List ℕ) (next : ℕ) → All Right (boots_checks front) → 1 ≤ next → next ≤ 257 → AreHeadsRight (boots_of front).boot
    (boots_of front).opened 60 next
unfolding boots_of
boots-right front next h some few = record {
  opened_before = test-le (word_in 12 front) (word_in 8 front) (h 1 (check 0 true) (omega arith));
  boots = test-lt (word_in 8 front) 2147483648 (h 0 (check 0 true) (omega arith));
  long = omega arith;
  short = omega arith;
  ids = some;
  few_ids = omega arith;
}

reached-whole : (b : Bool) (size blocks place : ℕ) (x : Unit {0}) → nat_le blocks (whole_blocks size) ≡ b → (if b then Ok tt else Err place) ≡ Ok x
    → blocks ≤ whole_blocks size
reached-whole true size blocks place x is h = test-le blocks (whole_blocks size) is
reached-whole false size blocks place x is h = cc

one-within : (bytes : List ℕ) (boots : Boots) (rows : FoundRows) → AreBytes bytes → ((next : ℕ) → 1 ≤ next → next ≤ 257 → AreHeadsRight boots.boot
    boots.opened 60 next) → AreRowsWithin Version.One rows → sum_by blocks_of rows.slots ≤ whole_blocks (length bytes)
    → IsWithinBounds (kept_in bytes (kept_one (record { boots = boots; rows = rows })))
unfolding kept_one
one-within bytes boots rows all heads within reaches =
    let files = files_of [] 0 rows.slots (numbers_from 1 256) in
    let blocks = numbers_from 0 (sum_by blocks_of rows.slots) in
    let next = length files + 1 in
    let used = length-files [] 0 rows.slots (numbers_from 1 256) in
    let every = within.all_slots in
    let P : ℕ → Type 0 = λ n. AreIdsRight next [] rows.slots (numbers_from 1 n) in
    let ids = subst P every (numbers-right next [] [] rows.slots within.right (All-nil (λ k. k ≤ 0)) (omega (arith, used))) in
    let below = numbers-below 0 (sum_by blocks_of rows.slots) (whole_blocks (length bytes)) (omega (arith, reaches)) in
    let whole = All-weaker (λ b. b < whole_blocks (length bytes)) (IsHeld (length bytes)) (λ b lt. whole-is-held (length bytes) b lt) blocks below in
    let held = files-held Version.One bytes next rows.slots (numbers_from 1 256) blocks within.right every ids
    (length-numbers 0 (sum_by blocks_of rows.slots)) whole in
    let few = held.few in
    kept-within bytes (record { heads = heads_one boots (length files); hosts = rows.hosts; files = files; blocks = blocks }) all
    (heads next (omega arith) (omega (arith, few))) within.hosts within.all_hosts held

image-one-within : (bytes : List ℕ) (found : FoundOne) → AreBytes bytes → image_one bytes ≡ Ok found → IsWithinBounds (kept_in bytes (kept_one found))
unfolding image_one
image-one-within bytes found all h =
    let start = piece 0 64 bytes in
    let made : Boots → FoundRows → FoundOne = λ boots rows. record { boots = boots; rows = rows } in
    let one = then-ok (tested (boots_checks start) (boots_of start)) (λ boots. rows_in Version.One bytes >>= λ rows. reached (length bytes)
    (sum_by blocks_of rows.slots) >>= λ reaches. Ok (made boots rows)) found h in
    let two = then-ok (rows_in Version.One bytes) (λ rows. reached (length bytes) (sum_by blocks_of rows.slots) >>= λ reaches. Ok (made one.0 rows))
    found one.2 in
    let sum = sum_by blocks_of two.0.slots in
    let three = then-ok (reached (length bytes) sum) (λ reaches. Ok (made one.0 two.0)) found two.2 in
    let same = ok-is (made one.0 two.0) found (Ok (made one.0 two.0)) refl three.2 in
    let boots = tested-value (boots_checks start) (boots_of start) one.0 one.1 in
    let right = all-right (boots_checks start) (boots_of start) one.0 one.1 in
    let Numbers : Boots → Type 0 = λ b. (next : ℕ) → 1 ≤ next → next ≤ 257 → AreHeadsRight b.boot b.opened 60 next in
    let heads = subst Numbers boots (λ next some few. boots-right start next right some few) in
    let reaches = reached-whole (nat_le sum (whole_blocks (length bytes))) (length bytes) sum (block_place (whole_blocks (length bytes))) three.0 refl
    three.1 in
    let Holds : FoundOne → Type 0 = λ f. IsWithinBounds (kept_in bytes (kept_one f)) in
    subst Holds same (one-within bytes one.0 two.0 all heads (rows-within Version.One bytes two.0 all two.1) reaches)

-- ---- either

found-within : (bytes : List ℕ) (version : Version) (found : Found) → AreBytes bytes → in_version version bytes ≡ Ok found
    → IsWithinBounds (kept_in bytes (found_kept found))
found-within bytes Version.One found all h =
    let one = then-ok (image_one bytes) (λ own. Ok (of_one own)) found h in
    let same = ok-is (of_one one.0) found (Ok (of_one one.0)) refl one.2 in
    subst (λ (f : Found). IsWithinBounds (kept_in bytes (found_kept f))) same (image-one-within bytes one.0 all one.1)
found-within bytes Version.Two found all h =
    let one = then-ok (image_two (no_marks 16641) bytes) (λ own. Ok (of_two own)) found h in
    let same = ok-is (of_two one.0) found (Ok (of_two one.0)) refl one.2 in
    subst (λ (f : Found). IsWithinBounds (kept_in bytes (found_kept f))) same (image-two-within bytes one.0 all one.1)

by-answer : (bytes : List ℕ) (kept : Kept) (version : Version) (answer : Result Found ℕ) → AreBytes bytes → in_version version bytes ≡ answer
    → stands_for bytes (Some answer) ≡ Some (Ok kept) → IsWithinBounds kept
by-answer bytes kept version (Err place) all is h = cc
by-answer bytes kept version (Ok found) all is h =
    let same : kept_in bytes (found_kept found) ≡ kept = cc in
    subst IsWithinBounds same (found-within bytes version found all is)

by-version : (bytes : List ℕ) (kept : Kept) (version : Option Version) → AreBytes bytes → stands_for bytes (in_versions version bytes)
    ≡ Some (Ok kept) → IsWithinBounds kept
by-version bytes kept None all h = cc
by-version bytes kept (Some version) all h = by-answer bytes kept version (in_version version bytes) all refl h

by-name : (bytes : List ℕ) (kept : Kept) (b : Bool) (version : Option Version) → AreBytes bytes → stands_for bytes (if b then in_versions version
    bytes else None) ≡ Some (Ok kept) → IsWithinBounds kept
by-name bytes kept true version all h = by-version bytes kept version all h
by-name bytes kept false version all h = cc

pub opened-within : (bytes : List ℕ) (kept : Kept) → AreBytes bytes → opened bytes ≡ Some (Ok kept) → IsWithinBounds kept
unfolding opened image_in
opened-within bytes kept all h =
    by-name bytes kept (nat_le 40960 (length bytes) && has_image_name bytes) (version_of (slice_index_or bytes 7 0)) all h
