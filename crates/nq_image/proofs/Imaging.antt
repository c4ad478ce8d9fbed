-- The image of a kept state opens as that state.
use Rattle.std.proofs.Common.{◌≡◌, ◌≤◌, ◌<◌, ◌+◌, ◌&&◌, inl, inr, ℕ, Bool, true, false, List, [], ◌∷◌, ◌++◌, Option, Some, None, Result, Ok, Err, map}
use Rattle.std.proofs.Common.{length, if◌then◌else◌, refl, sym, ap, subst, ◌∙◌, arith, length-append}
use Rattle.std.specs.List.{All}
use Rattle.std.specs.Prelude.{nat_le, slice_index_or}
use Rattle.std.proofs.lemmas.Bool.{cases_lt}
use Rattle.std.proofs.lemmas.List.{append_assoc, get_or-replicate, get_or_past, length-replicate}
use Rattle.std.proofs.lemmas.List.Elements.{All-cons, All-nil}
use Rattle.std.proofs.lemmas.Nat.{from_be_bytes-to_be_bytes_4}
use Rattle.nq_base.specs.declared.HostRow.{HostRow}
use Rattle.nq_model.specs.protocol.Change.{IsWithinBounds}
use Rattle.nq_model.specs.protocol.Kept.{File, Kept, blocks_in_all}
use Rattle.nq_image.specs.Check.{Check, tested}
use Rattle.nq_image.specs.Heads.{front_checks, front_of, version_of}
use Rattle.nq_image.specs.Hosts.{hosts_checks, hosts_of}
use Rattle.nq_image.specs.Image.{FoundRows, FoundTables, FoundTwo, ◌>>=◌, ids_in, image_two, no_marks, rows_in, tables_in}
use Rattle.nq_image.specs.Kept.{file_in, files_of, kept_in, kept_two, numbers_from, opened, stands_for}
use Rattle.nq_image.specs.Layout.{are_zeros, block_place, piece, word_in}
use Rattle.nq_image.specs.Rows.{rows_checks, slots_of}
use Rattle.nq_image.specs.Tables.{held, ids_checks, ids_of, is_marked, tables_blocks, tables_checks, tables_marks}
use Rattle.nq_image.specs.Whole.{Found, has_image_name, image_in, in_versions, of_two}
use Rattle.nq_image.specs.Writing.{bodies_of, front_bytes, hosts_bytes, ids_bytes, image_of, rows_bytes, tables_bytes, zeros_of}
use Rattle.nq_image.specs.declared.heads.Front.{Front}
use Rattle.nq_image.specs.declared.kept.FoundFile.{FoundFile}
use Rattle.nq_image.specs.declared.rows.Slot.{Slot}
use Rattle.nq_image.specs.declared.rows.Version.{Version}
use Rattle.nq_image.proofs.Bodying.{files-are, found-are, found_for, length-all-bodies}
use Rattle.nq_image.proofs.FileRows.{IsNew, length-rows, rows-hold, slots-are, slots_for}
use Rattle.nq_image.proofs.Giving.{tables-length}
use Rattle.nq_image.proofs.ReadBack.{Hold, and-two, ge-true, hold-tested, hosts-are, hosts-hold, le-both, le-true, length-hosts_bytes, length-zeros}
use Rattle.nq_image.proofs.ReadBack.{lt-true, piece-there, zeros-are}
use Rattle.nq_image.proofs.Tabling.{AreFree, all-held, ids-are, ids-hold, ids_for, length-ids, length-tables, tables-back}

pub then-goes : {A B : Type 0} (r : Result A ℕ) (x : A) (f : A → Result B ℕ) → r ≡ Ok x → (r >>= f) ≡ f x
then-goes r x f is = ap (λ (a : Result _ ℕ). a >>= f) is

pub goes-if : {A : Type 0} (b : Bool) (x y : A) → b ≡ true → (if b then x else y) ≡ x
goes-if true x y e = refl
goes-if false x y e = cc

tested-as : {A : Type 0} (checks : List Check) (x y : A) → Hold checks → x ≡ y → tested checks x ≡ Ok y
tested-as checks x y hold same = hold-tested checks x hold ∙ ap Ok same

-- ---- the front

module _ (tables : ℕ) (kept : Kept) (near : tables ≤ 16384) (w : IsWithinBounds kept) where
  abbrev front : List ℕ
  front = front_bytes tables kept

  abbrev numbers : Front
  numbers = record { boot = kept.boot; opened = kept.opened; longest = kept.longest; next = kept.next; tables = tables }

  boot-is : word_in 8 front ≡ kept.boot
  unfolding word_in front_bytes
  boot-is = let fits = w.boot in from_be_bytes-to_be_bytes_4 kept.boot (omega arith)

  opened-is : word_in 12 front ≡ kept.opened
  unfolding word_in front_bytes
  opened-is = let fits = w.boot in let least = w.opened in from_be_bytes-to_be_bytes_4 kept.opened (omega arith)

  longest-is : word_in 16 front ≡ kept.longest
  unfolding word_in front_bytes
  longest-is = let fits = w.short in from_be_bytes-to_be_bytes_4 kept.longest (omega arith)

  next-is : word_in 20 front ≡ kept.next
  unfolding word_in front_bytes
  next-is = let fits = w.few_ids in from_be_bytes-to_be_bytes_4 kept.next (omega arith)

  tables-is : word_in 24 front ≡ tables
  unfolding word_in front_bytes
  tables-is = from_be_bytes-to_be_bytes_4 tables (omega arith)

  zeros-is : are_zeros (piece 28 36 front) ≡ true
  unfolding piece front_bytes
  zeros-is = refl

  pub front-holds : Hold (front_checks front)
  front-holds = (
    lt-true (word_in 8 front) kept.boot 2147483648 boot-is w.boot,
    (
      le-both (word_in 12 front) (word_in 8 front) kept.opened kept.boot opened-is boot-is w.opened,
      (
        and-two (nat_le 5 (word_in 16 front)) (nat_le (word_in 16 front) 600) (ge-true (word_in 16 front) kept.longest 5 longest-is w.long)
            (le-true (word_in 16 front) kept.longest 600 longest-is w.short),
        (
          and-two (nat_le 1 (word_in 20 front)) (nat_le (word_in 20 front) 2147483648) (ge-true (word_in 20 front) kept.next 1 next-is w.ids)
              (le-true (word_in 20 front) kept.next 2147483648 next-is w.few_ids),
          (
            le-true (word_in 24 front) tables 16384 tables-is near,
            (zeros-is, tt),
          ),
        ),
      ),
    ),
  )

  abbrev numbers-with : (boot opened longest next tables : ℕ) → Front
  numbers-with boot opened longest next tables = record { boot = boot; opened = opened; longest = longest; next = next; tables = tables }

  pub front-is : front_of front ≡ numbers
  unfolding front_of
  front-is =
      ap (λ (x : ℕ). numbers-with x (word_in 12 front) (word_in 16 front) (word_in 20 front) (word_in 24 front)) boot-is
      ∙ ap (λ (x : ℕ). numbers-with kept.boot x (word_in 16 front) (word_in 20 front) (word_in 24 front)) opened-is
      ∙ ap (λ (x : ℕ). numbers-with kept.boot kept.opened x (word_in 20 front) (word_in 24 front)) longest-is
      ∙ ap (λ (x : ℕ). numbers-with kept.boot kept.opened kept.longest x (word_in 24 front)) next-is
      ∙ ap (λ (x : ℕ). numbers-with kept.boot kept.opened kept.longest kept.next x) tables-is

  pub length-front : length front ≡ 64
  unfolding front_bytes
  length-front = refl

  pub version-is : (rest : List ℕ) → version_of (slice_index_or (front ++ rest) 7 0) ≡ Some Version.Two
  unfolding front_bytes version_of
  version-is rest = refl

  pub named : (rest : List ℕ) → has_image_name (front ++ rest) ≡ true
  unfolding front_bytes piece
  named rest = refl

-- ---- the parts

abbrev rows-with : List HostRow → List (Option Slot) → FoundRows
rows-with hosts slots = record { hosts = hosts; slots = slots }

pub rows-are : (bytes host_bytes file_bytes gap : List ℕ) (hosts : List HostRow) (slots : List (Option Slot)) → piece 64 2048 bytes ≡ host_bytes
    → piece 2112 24576 bytes ≡ file_bytes → piece 26688 1984 bytes ≡ gap → Hold (hosts_checks 64 64 host_bytes) → hosts_of 64 host_bytes ≡ hosts
    → Hold (rows_checks Version.Two 256 2112 [] file_bytes) → slots_of 256 file_bytes ≡ slots → are_zeros gap ≡ true → rows_in Version.Two bytes
    ≡ Ok (rows-with hosts slots)
unfolding rows_in
rows-are bytes host_bytes file_bytes gap hosts slots one two three hold-hosts same-hosts hold-rows same-rows zeros =
    let hosts_at : List ℕ → Result (List HostRow) ℕ = λ p. tested (hosts_checks 64 64 p) (hosts_of 64 p) in
    let rows_at : List ℕ → Result (List (Option Slot)) ℕ = λ p. tested (rows_checks Version.Two 256 2112 [] p) (slots_of 256 p) in
    let last : List HostRow → List (Option Slot) → Result FoundRows ℕ = λ h s. if are_zeros (piece 26688 1984 bytes) then Ok (rows-with h s) else Err 26688 in
    let first = ap hosts_at one ∙ tested-as (hosts_checks 64 64 host_bytes) (hosts_of 64 host_bytes) hosts hold-hosts same-hosts in
    let second = ap rows_at two ∙ tested-as (rows_checks Version.Two 256 2112 [] file_bytes) (slots_of 256 file_bytes) slots hold-rows same-rows in
    then-goes (hosts_at (piece 64 2048 bytes)) hosts (λ h. rows_at (piece 2112 24576 bytes) >>= λ s. last h s) first
    ∙ then-goes (rows_at (piece 2112 24576 bytes)) slots (λ s. last hosts s) second
    ∙ goes-if (are_zeros (piece 26688 1984 bytes)) (Ok (rows-with hosts slots)) (Err 26688) (ap (λ (b : List ℕ). are_zeros b) three ∙ zeros)

abbrev tables-with : (ids blocks : List ℕ) → List Bool → FoundTables
tables-with ids blocks marks = record { ids = ids; blocks = blocks; marks = marks }

pub ids-there : (place next : ℕ) (slots : List (Option Slot)) (bytes table ids : List ℕ) → place + 4096 ≤ length bytes → piece place 4096 bytes
    ≡ table → Hold (ids_checks next place [] slots table) → ids_of slots table ≡ ids → ids_in place next slots bytes ≡ Ok ids
ids-there place next slots bytes table ids long is hold same =
    let at : List ℕ → Result (List ℕ) ℕ = λ p. tested (ids_checks next place [] slots p) (ids_of slots p) in
    goes-if (nat_le (place + 4096) (length bytes)) (at (piece place 4096 bytes)) (Err place) (le-true (place + 4096) (place + 4096) (length bytes) refl long)
    ∙ ap at is ∙ tested-as (ids_checks next place [] slots table) (ids_of slots table) ids hold same

pub tables-are : (front : Front) (slots : List (Option Slot)) (marks : List Bool) (bytes blocks ids : List ℕ)
    → Hold (tables_checks front.tables (block_place front.tables) slots marks bytes) → tables_blocks (block_place front.tables) slots bytes ≡ blocks
    → ids_in (block_place front.tables + 1048576) front.next slots bytes ≡ Ok ids → held (length bytes) (tables_marks (block_place front.tables) slots
    marks bytes) ≡ Ok tt → tables_in front slots marks bytes ≡ Ok (tables-with ids blocks (tables_marks (block_place front.tables) slots marks bytes))
unfolding tables_in
tables-are front slots marks bytes blocks ids hold same ids_is held_is =
    let place = block_place front.tables in
    let behind = tables_marks place slots marks bytes in
    let one = tested-as (tables_checks front.tables place slots marks bytes) (tables_blocks place slots bytes) blocks hold same in
    then-goes (tested (tables_checks front.tables place slots marks bytes) (tables_blocks place slots bytes)) blocks (λ b. ids_in (place + 1048576)
    front.next slots bytes >>= λ i. held (length bytes) behind >>= λ holds. Ok (tables-with i b behind)) one
    ∙ then-goes (ids_in (place + 1048576) front.next slots bytes) ids (λ i. held (length bytes) behind >>= λ holds. Ok (tables-with i blocks behind)) ids_is
    ∙ then-goes (held (length bytes) behind) tt (λ holds. Ok (tables-with ids blocks behind)) held_is

abbrev two-with : Front → FoundRows → FoundTables → FoundTwo
two-with front rows tables = record { front = front; rows = rows; tables = tables }

pub two-are : (marks : List Bool) (bytes first : List ℕ) (front : Front) (rows : FoundRows) (tables : FoundTables) → piece 0 64 bytes ≡ first
    → Hold (front_checks first) → front_of first ≡ front → rows_in Version.Two bytes ≡ Ok rows → tables_in front rows.slots marks bytes ≡ Ok tables
    → image_two marks bytes ≡ Ok (two-with front rows tables)
unfolding image_two
two-are marks bytes first front rows tables is hold same rows_are tables_are =
    let at : List ℕ → Result Front ℕ = λ p. tested (front_checks p) (front_of p) in
    let one = ap at is ∙ tested-as (front_checks first) (front_of first) front hold same in
    then-goes (at (piece 0 64 bytes)) front (λ f. rows_in Version.Two bytes >>= λ r. tables_in f r.slots marks bytes >>= λ t. Ok (two-with f r t)) one
    ∙ then-goes (rows_in Version.Two bytes) rows (λ r. tables_in front r.slots marks bytes >>= λ t. Ok (two-with front r t)) rows_are
    ∙ then-goes (tables_in front rows.slots marks bytes) tables (λ t. Ok (two-with front rows t)) tables_are

opens-as : (bytes : List ℕ) (found : FoundTwo) (kept : Kept) → 40960 ≤ length bytes → has_image_name bytes ≡ true
    → version_of (slice_index_or bytes 7 0) ≡ Some Version.Two → image_two (no_marks 16641) bytes ≡ Ok found → kept_in bytes (kept_two found) ≡ kept
    → opened bytes ≡ Some (Ok kept)
unfolding opened image_in
opens-as bytes found kept long name version is same =
    let both = and-two (nat_le 40960 (length bytes)) (has_image_name bytes) (ge-true (length bytes) (length bytes) 40960 refl long) name in
    ap (λ (i : Option (Result Found ℕ)). stands_for bytes i)
    (goes-if (nat_le 40960 (length bytes) && has_image_name bytes) (in_versions (version_of (slice_index_or bytes 7 0)) bytes) None both
    ∙ ap (λ (v : Option Version). in_versions v bytes) version
    ∙ ap (λ (r : Result Found ℕ). Some r) (then-goes (image_two (no_marks 16641) bytes) found (λ f. Ok (of_two f)) is))
    ∙ ap (λ (k : Kept). Some (Ok k)) same

pub no-marks : (count k : ℕ) → is_marked (no_marks count) k ≡ false
unfolding no_marks
no-marks count k = elim (cases_lt k count) [
  | inl lt ↦ get_or-replicate count k false false lt
  | inr le ↦ get_or_past (no_marks count) k false (omega (arith, length-replicate count false))
]

pub length-marks : (count : ℕ) → length (no_marks count) ≡ count
unfolding no_marks
length-marks count = length-replicate count false

-- ---- the image

module _ (kept : Kept) (w : IsWithinBounds kept) (rest bytes : List ℕ) where
  abbrev total : ℕ
  total = blocks_in_all kept.files

  abbrev first : List ℕ
  first = front_bytes total kept

  abbrev hosts : List ℕ
  hosts = hosts_bytes kept.hosts

  abbrev rows : List ℕ
  rows = rows_bytes 256 kept.files

  abbrev gap : List ℕ
  gap = zeros_of 1984

  abbrev area : List ℕ
  area = zeros_of 12288

  abbrev bodies : List ℕ
  bodies = bodies_of kept.files

  abbrev tables : List ℕ
  tables = tables_bytes 256 0 kept.files

  abbrev ids : List ℕ
  ids = ids_bytes 256 kept.files

  abbrev last : List ℕ
  last = zeros_of 3072

  abbrev slots : List (Option Slot)
  slots = slots_for 256 kept.files

  length-first : length first ≡ 64
  length-first = length-front total kept w.few_blocks w

  length-hosts : length hosts ≡ 2048
  length-hosts = let all = w.all_hosts in omega (arith, all, length-hosts_bytes kept.hosts)

  length-file-rows : length rows ≡ 24576
  length-file-rows = length-rows 256 kept.next kept.files w.files

  length-all-tables : length tables ≡ 1048576
  length-all-tables = length-tables 256 0 kept.next kept.files w.files

  module _ (is : bytes ≡ first ++ (hosts ++ (rows ++ (gap ++ (area ++ (bodies ++ (tables ++ ((ids ++ last) ++ rest)))))))) where
    from-rows : bytes ≡ (first ++ hosts) ++ (rows ++ (gap ++ (area ++ (bodies ++ (tables ++ ((ids ++ last) ++ rest))))))
    from-rows = is ∙ sym (append_assoc first hosts (rows ++ (gap ++ (area ++ (bodies ++ (tables ++ ((ids ++ last) ++ rest)))))))

    from-gap : bytes ≡ ((first ++ hosts) ++ rows) ++ (gap ++ (area ++ (bodies ++ (tables ++ ((ids ++ last) ++ rest)))))
    from-gap = from-rows ∙ sym (append_assoc (first ++ hosts) rows (gap ++ (area ++ (bodies ++ (tables ++ ((ids ++ last) ++ rest))))))

    abbrev before_area : List ℕ
    before_area = ((first ++ hosts) ++ rows) ++ gap

    abbrev before_bodies : List ℕ
    before_bodies = before_area ++ area

    abbrev before_tables : List ℕ
    before_tables = before_bodies ++ bodies

    abbrev before_ids : List ℕ
    before_ids = before_tables ++ tables

    from-bodies : bytes ≡ before_bodies ++ (bodies ++ (tables ++ ((ids ++ last) ++ rest)))
    from-bodies =
        from-gap
        ∙ sym (append_assoc ((first ++ hosts) ++ rows) gap (area ++ (bodies ++ (tables ++ ((ids ++ last) ++ rest)))))
        ∙ sym (append_assoc before_area area (bodies ++ (tables ++ ((ids ++ last) ++ rest))))

    from-tables : bytes ≡ before_tables ++ (tables ++ ((ids ++ last) ++ rest))
    from-tables = from-bodies ∙ sym (append_assoc before_bodies bodies (tables ++ ((ids ++ last) ++ rest)))

    from-ids : bytes ≡ before_ids ++ ((ids ++ last) ++ rest)
    from-ids = from-tables ∙ sym (append_assoc before_tables tables ((ids ++ last) ++ rest))

    length-before-rows : length (first ++ hosts) ≡ 2112
    length-before-rows = omega (arith, length-append first hosts, length-first, length-hosts)

    length-before-gap : length ((first ++ hosts) ++ rows) ≡ 26688
    length-before-gap = omega (arith, length-append (first ++ hosts) rows, length-before-rows, length-file-rows)

    length-before-bodies : length before_bodies ≡ 40960
    length-before-bodies = omega (
      arith,
      length-append ((first ++ hosts) ++ rows) gap,
      length-append before_area area,
      length-before-gap,
      length-zeros 1984,
      length-zeros 12288,
    )

    length-before-tables : length before_tables ≡ block_place total
    length-before-tables = omega (arith, length-append before_bodies bodies, length-before-bodies, length-all-bodies kept.next kept.files w.files)

    length-before-ids : length before_ids ≡ block_place total + 1048576
    length-before-ids = omega (arith, length-append before_tables tables, length-before-tables, length-all-tables)

    length-last : length (ids ++ last) ≡ 4096
    length-last = omega (arith, length-append ids last, length-ids 256 kept.files, length-zeros 3072)

    length-bytes : length bytes ≡ block_place total + 1048576 + 4096 + length rest
    length-bytes = omega (
      arith,
      ap length from-ids,
      length-append before_ids ((ids ++ last) ++ rest),
      length-append (ids ++ last) rest,
      length-before-ids,
      length-last,
    )

    all-rows : rows_in Version.Two bytes ≡ Ok (rows-with kept.hosts slots)
    all-rows =
        let Hosts : ℕ → Type 0 = λ n. Hold (hosts_checks n 64 hosts) in
        let Same : ℕ → Type 0 = λ n. hosts_of n hosts ≡ kept.hosts in
        rows-are bytes hosts rows gap kept.hosts slots
        (piece-there 64 2048 first hosts (rows ++ (gap ++ (area ++ (bodies ++ (tables ++ ((ids ++ last) ++ rest)))))) bytes is length-first length-hosts)
        (piece-there 2112 24576 (first ++ hosts) rows (gap ++ (area ++ (bodies ++ (tables ++ ((ids ++ last) ++ rest))))) bytes from-rows
        length-before-rows length-file-rows)
        (piece-there 26688 1984 ((first ++ hosts) ++ rows) gap (area ++ (bodies ++ (tables ++ ((ids ++ last) ++ rest)))) bytes from-gap
        length-before-gap (length-zeros 1984))
        (subst Hosts w.all_hosts (hosts-hold 64 kept.hosts w.hosts))
        (subst Same w.all_hosts (hosts-are kept.hosts w.hosts))
        (rows-hold 256 2112 kept.next [] kept.files w.files w.apart (none-named kept.files) (let few = w.few_blocks in omega (arith, few)))
        (slots-are 256 kept.next kept.files w.files)
        (zeros-are 1984)
      where
        none-named : (files : List File) → All (IsNew []) files
        none-named [] = All-nil (IsNew [])
        none-named (f ∷ files) = All-cons (IsNew []) f files refl (none-named files)

    marks-free : AreFree 0 (no_marks 16641)
    marks-free k le = no-marks 16641 k

    abbrev ids-found : List ℕ
    ids-found = ids_for 256 kept.files

    abbrev blocks-found : List ℕ
    blocks-found = numbers_from 0 total

    abbrev marks-found : List Bool
    marks-found = tables_marks (block_place total) slots (no_marks 16641) bytes

    all-tables : tables_in (numbers total kept w.few_blocks w) slots (no_marks 16641) bytes ≡ Ok (tables-with ids-found blocks-found marks-found)
    all-tables =
        let back = tables-back total w.few_blocks 256 (block_place total) 0 kept.next kept.files (no_marks 16641) before_tables ((ids ++ last)
        ++ rest) bytes from-tables length-before-tables w.few_files w.files (omega arith) marks-free in
        tables-are (numbers total kept w.few_blocks w) slots (no_marks 16641) bytes blocks-found ids-found back.holds back.blocks
        (ids-there (block_place total + 1048576) kept.next slots bytes (ids ++ last) ids-found (omega (arith, length-bytes))
        (piece-there (block_place total + 1048576) 4096 before_ids (ids ++ last) rest bytes from-ids length-before-ids length-last)
        (ids-hold 256 kept.next (block_place total + 1048576) 3072 [] kept.files w.few_ids w.files w.apart (none-before kept.files))
        (ids-are 256 kept.next 3072 kept.files w.few_ids w.files))
        (all-held (length bytes) total marks-found (free-all back.free) (tables-length (block_place total) slots (no_marks 16641) bytes
        ∙ length-marks 16641) w.few_blocks (omega (arith, length-bytes)))
      where
        none-before : (files : List File) → All (λ f. All (λ k. k < f.id) []) files
        none-before [] = All-nil (λ f. All (λ k. k < f.id) [])
        none-before (f ∷ files) = All-cons (λ f. All (λ k. k < f.id) []) f files (All-nil (λ k. k < f.id)) (none-before files)

        free-all : AreFree (0 + total) marks-found → AreFree total marks-found
        free-all free k le = free k (omega arith)

    abbrev found : FoundTwo
    found = two-with (numbers total kept w.few_blocks w) (rows-with kept.hosts slots) (tables-with ids-found blocks-found marks-found)

    whole : image_two (no_marks 16641) bytes ≡ Ok found
    whole =
        two-are (no_marks 16641) bytes first (numbers total kept w.few_blocks w) (rows-with kept.hosts slots) (tables-with ids-found blocks-found marks-found)
        (piece-there 0 64 [] first (hosts ++ (rows ++ (gap ++ (area ++ (bodies ++ (tables ++ ((ids ++ last) ++ rest))))))) bytes is refl length-first)
        (front-holds total kept w.few_blocks w) (front-is total kept w.few_blocks w) all-rows all-tables

    abbrev kept-with : List File → Kept
    kept-with files = record { files = files; hosts = kept.hosts; boot = kept.boot; opened = kept.opened; longest = kept.longest; next = kept.next }

    all-files : files_of [] 0 slots ids-found ≡ found_for 0 kept.files
    all-files = files-are 256 0 [] kept.files w.few_files w.apart (none-done kept.files)
      where
        none-done : (files : List File) → All (λ f. All (λ (d : FoundFile). d.row.id < f.id) []) files
        none-done [] = All-nil (λ f. All (λ (d : FoundFile). d.row.id < f.id) [])
        none-done (f ∷ files) = All-cons (λ f. All (λ (d : FoundFile). d.row.id < f.id) []) f files (All-nil (λ (d : FoundFile). d.row.id < f.id))
            (none-done files)

    same-kept : kept_in bytes (kept_two found) ≡ kept
    unfolding kept_in kept_two
    same-kept =
        ap (λ (l : List FoundFile). kept-with (map (file_in bytes blocks-found) l)) all-files
        ∙ ap kept-with (found-are 0 total kept.next kept.files before_bodies (tables ++ ((ids ++ last) ++ rest)) bytes from-bodies
        length-before-bodies (omega arith) w.files)

    pub parts-open : opened bytes ≡ Some (Ok kept)
    parts-open =
        let Named : List ℕ → Type 0 = λ b. has_image_name b ≡ true in
        let Two : List ℕ → Type 0 = λ b. version_of (slice_index_or b 7 0) ≡ Some Version.Two in
        let behind = hosts ++ (rows ++ (gap ++ (area ++ (bodies ++ (tables ++ ((ids ++ last) ++ rest)))))) in
        opens-as bytes found kept (omega (arith, length-bytes)) (subst Named (sym is) (named total kept w.few_blocks w behind))
        (subst Two (sym is) (version-is total kept w.few_blocks w behind)) whole same-kept

module _ (kept : Kept) (rest : List ℕ) where
  abbrev of-ids : List ℕ
  of-ids = ids_bytes 256 kept.files ++ zeros_of 3072

  abbrev of-tables : List ℕ
  of-tables = tables_bytes 256 0 kept.files ++ of-ids

  abbrev of-bodies : List ℕ
  of-bodies = bodies_of kept.files ++ of-tables

  abbrev of-area : List ℕ
  of-area = zeros_of 12288 ++ of-bodies

  abbrev of-gap : List ℕ
  of-gap = zeros_of 1984 ++ of-area

  abbrev of-rows : List ℕ
  of-rows = rows_bytes 256 kept.files ++ of-gap

  abbrev of-hosts : List ℕ
  of-hosts = hosts_bytes kept.hosts ++ of-rows

  before : (front behind behind_all : List ℕ) → behind ++ rest ≡ behind_all → (front ++ behind) ++ rest ≡ front ++ behind_all
  before front behind behind_all same = append_assoc front behind rest ∙ ap (λ (b : List ℕ). front ++ b) same

  flat : image_of kept ++ rest ≡ front_bytes (blocks_in_all kept.files) kept ++ (hosts_bytes kept.hosts ++ (rows_bytes 256 kept.files
      ++ (zeros_of 1984 ++ (zeros_of 12288 ++ (bodies_of kept.files ++ (tables_bytes 256 0 kept.files ++ (of-ids ++ rest)))))))
  unfolding image_of
  flat =
      before (front_bytes (blocks_in_all kept.files) kept) of-hosts _
      (before (hosts_bytes kept.hosts) of-rows _
      (before (rows_bytes 256 kept.files) of-gap _
      (before (zeros_of 1984) of-area _
      (before (zeros_of 12288) of-bodies _
      (before (bodies_of kept.files) of-tables _
      (append_assoc (tables_bytes 256 0 kept.files) of-ids rest))))))

pub image-opens : (kept : Kept) (rest : List ℕ) → IsWithinBounds kept → opened (image_of kept ++ rest) ≡ Some (Ok kept)
image-opens kept rest w = parts-open kept w rest (image_of kept ++ rest) (flat kept rest)
