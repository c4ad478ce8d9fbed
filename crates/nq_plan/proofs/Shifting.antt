-- Tables that are read from their bytes alone: each place is counted from where they begin.
use Rattle.std.proofs.Common.{◌≡◌, ◌≤◌, ◌<◌, ◌+◌, ◌-◌, ◌*◌, inl, inr, min, ℕ, zero, suc, Bool, true, false, List, [], ◌∷◌, ◌++◌, Option, Some, None}
use Rattle.std.proofs.Common.{Result, Ok, Err, take, drop, map, length, get_or, if◌then◌else◌, refl, sym, ap, subst, ◌∙◌, arith, length-drop}
use Rattle.std.specs.Prelude.{nat_le, slice_index_or}
use Rattle.std.proofs.lemmas.Bool.{cases_lt}
use Rattle.std.proofs.lemmas.Bool.Decides.{nat_tests}
use Rattle.std.proofs.lemmas.List.{append-nil, append_assoc, drop_all, drop_at, length-take, map-append, take_at}
use Rattle.nq_image.specs.Check.{Check, check, tested}
use Rattle.nq_image.specs.Image.{ids_in}
use Rattle.nq_image.specs.Layout.{piece, word_in}
use Rattle.nq_image.specs.Reading.{Reads}
use Rattle.nq_image.specs.Rows.{blocks_of}
use Rattle.nq_image.specs.Standing.{PlacedFile, placed_rows}
use Rattle.nq_image.specs.Tables.{ids_checks, ids_of, is_entry, marked, slot_checks, slot_marks, slot_table, table_checks, table_of, tables_blocks}
use Rattle.nq_image.specs.Tables.{tables_checks, tables_marks}
use Rattle.nq_image.specs.declared.fault.ImageFault.{ImageFault}
use Rattle.nq_image.specs.declared.fault.ImageFault.TheVariants.{NotAnImage, BadField, Memory}
use Rattle.nq_image.specs.declared.rows.Slot.{Slot}
use Rattle.nq_image.proofs.Allotting.{length-table}
use Rattle.nq_image.proofs.Pieces.{piece-in}
use Rattle.nq_image.proofs.Walks.{one-more}
use Rattle.nq_plan.specs.Reading.{IsMoved, row_from, rows_of}

-- ---- checks at other places

abbrev pub later : (start : ℕ) → Check → Check
later start c = check (start + c.place) c.holds

abbrev pub shifted : {X : Type 0} → (start : ℕ) → Result X ℕ → Result X ℕ
shifted start (Ok x) = Ok x
shifted start (Err place) = Err (start + place)

by-holds : {X : Type 0} (start place : ℕ) (one two : Result X ℕ) (b : Bool) → one ≡ shifted start two → (if b then one else Err (start + place))
    ≡ shifted start (if b then two else Err place)
by-holds start place one two true more = more
by-holds start place one two false more = refl

pub tested-later : {X : Type 0} (start : ℕ) (checks : List Check) (x : X) → tested (map (later start) checks) x ≡ shifted start (tested checks x)
tested-later start [] x = refl
tested-later start (c ∷ checks) x = by-holds start c.place (tested (map (later start) checks) x) (tested checks x) c.holds (tested-later start checks x)

table-later : (count tables start at : ℕ) (marks : List Bool) (rest : List ℕ) → table_checks count tables (start + at) marks rest ≡ map (later start)
    (table_checks count tables at marks rest)
unfolding table_checks
table-later zero tables start at marks rest = refl
table-later (suc count) tables start at marks rest =
    let e : start + at + 4 ≡ start + (at + 4) = omega arith in
    ap (λ (n : ℕ). check (start + at) (is_entry tables marks (word_in 0 rest)) ∷ table_checks count tables n (marked marks (word_in 0 rest)) (drop 4 rest)) e
    ∙ ap (λ (l : List Check). check (start + at) (is_entry tables marks (word_in 0 rest)) ∷ l) (table-later count tables start (at + 4)
    (marked marks (word_in 0 rest)) (drop 4 rest))

slot-later : (tables start at : ℕ) (slot : Option Slot) (marks : List Bool) (table : List ℕ) → slot_checks tables (start + at) slot marks table
    ≡ map (later start) (slot_checks tables at slot marks table)
unfolding slot_checks
slot-later tables start at None marks table = refl
slot-later tables start at (Some slot) marks table = table-later slot.blocks tables start at marks table

-- ---- a window of an image

length-window : (start size : ℕ) (bytes : List ℕ) → length (piece start size bytes) ≡ min size (length bytes - start)
unfolding piece
length-window start size bytes = omega (arith, length-take size (drop start bytes), length-drop start bytes)

is-long : (m n : ℕ) → m ≤ n → nat_le m n ≡ true
is-long m n le = grind (arith, nat_tests)

is-short : (m n : ℕ) → n < m → nat_le m n ≡ false
is-short m n lt = grind (arith, nat_tests)

same-tests : (a b c d : ℕ) → (a ≤ b → c ≤ d) → (c ≤ d → a ≤ b) → nat_le a b ≡ nat_le c d
same-tests a b c d f g = elim (cases_lt b a) [
  | inl lt ↦ elim (cases_lt d c) [
    | inl other ↦ is-short a b lt ∙ sym (is-short c d other)
    | inr le ↦ absurd (let x = g le in omega (arith, x, lt))
  ]
  | inr le ↦ is-long a b le ∙ sym (is-long c d (f le))
]

whole-same : (start size at : ℕ) (bytes : List ℕ) → at + 4096 ≤ size → nat_le (start + at + 4096) (length bytes) ≡ nat_le (at + 4096)
    (length (piece start size bytes))
whole-same start size at bytes within =
    let long = length-window start size bytes in
    same-tests (start + at + 4096) (length bytes) (at + 4096) (length (piece start size bytes)) (λ le. omega (arith, long, within, le))
    (λ le. omega (arith, long, within, le))

pub record AreLater (tables start at : ℕ) (slots : List (Option Slot)) (marks : List Bool) (window bytes : List ℕ) : Type 0 where
  pub checks : tables_checks tables (start + at) slots marks bytes ≡ map (later start) (tables_checks tables at slots marks window)
  pub blocks : tables_blocks (start + at) slots bytes ≡ tables_blocks at slots window
  pub marks_are : tables_marks (start + at) slots marks bytes ≡ tables_marks at slots marks window

pub tables-later : (slots : List (Option Slot)) (tables start size at : ℕ) (marks : List Bool) (bytes : List ℕ) → at + 4096 * length slots ≤ size
    → AreLater tables start at slots marks (piece start size bytes) bytes
unfolding tables_checks tables_blocks tables_marks
tables-later [] tables start size at marks bytes within = record { checks = refl; blocks = refl; marks_are = refl }
tables-later (slot ∷ slots) tables start size at marks bytes within =
    let window = piece start size bytes in
    let table = piece (start + at) 4096 bytes in
    let same : piece at 4096 window ≡ table = piece-in start size at 4096 bytes (omega (arith, within)) in
    let e : start + at + 4096 ≡ start + (at + 4096) = omega arith in
    let more = tables-later slots tables start size (at + 4096) (slot_marks slot marks table) bytes (omega (arith, within)) in
    let whole = whole-same start size at bytes (omega (arith, within)) in
    let own = slot_checks tables at slot marks table in
    let rest = tables_checks tables (at + 4096) slots (slot_marks slot marks table) window in
    record {
      checks =
          ap (λ (b : Bool). check (start + at) b ∷ (slot_checks tables (start + at) slot marks table ++ tables_checks tables (start + at + 4096) slots
          (slot_marks slot marks table) bytes)) whole
          ∙ ap (λ (n : ℕ). check (start + at) (nat_le (at + 4096) (length window)) ∷ (slot_checks tables (start + at) slot marks table
          ++ tables_checks tables n slots (slot_marks slot marks table) bytes)) e
          ∙ ap (λ (l : List Check). check (start + at) (nat_le (at + 4096) (length window)) ∷ (l ++ tables_checks tables (start + (at + 4096)) slots
          (slot_marks slot marks table) bytes)) (slot-later tables start at slot marks table)
          ∙ ap (λ (l : List Check). check (start + at) (nat_le (at + 4096) (length window)) ∷ (map (later start) own ++ l)) more.checks
          ∙ ap (λ (l : List Check). check (start + at) (nat_le (at + 4096) (length window)) ∷ l) (sym (map-append (later start) own rest))
          ∙ ap (λ (t : List ℕ). map (later start) (check at (nat_le (at + 4096) (length window)) ∷ (slot_checks tables at slot marks t
          ++ tables_checks tables (at + 4096) slots (slot_marks slot marks t) window))) (sym same);
      blocks =
          ap (λ (n : ℕ). slot_table slot table ++ tables_blocks n slots bytes) e
          ∙ ap (λ (l : List ℕ). slot_table slot table ++ l) more.blocks
          ∙ ap (λ (t : List ℕ). slot_table slot t ++ tables_blocks (at + 4096) slots window) (sym same);
      marks_are =
          ap (λ (n : ℕ). tables_marks n slots (slot_marks slot marks table) bytes) e
          ∙ more.marks_are
          ∙ ap (λ (t : List ℕ). tables_marks (at + 4096) slots (slot_marks slot marks t) window) (sym same);
    }

-- ---- what a read from the window tells of the image

pub reads-moved : {X Y : Type 0} (view : X → Y) (start : ℕ) (fault result : ImageFault) (told : Result Y ℕ) → Reads view (Err fault) told
    → IsMoved start fault result → Reads view (Err result) (shifted start told)
reads-moved view start (BadField place) result told reads (inl is) =
    let R : ImageFault → Type 0 = λ f. Reads view (Err f) (shifted start told) in
    subst R (sym is) (ap (shifted start) reads)
reads-moved view start (BadField place) result told reads (inr is) =
    let R : ImageFault → Type 0 = λ f. Reads view (Err f) (shifted start told) in
    subst R (sym is) tt
reads-moved view start NotAnImage result told reads is = absurd reads
reads-moved view start Memory result told reads is =
    let R : ImageFault → Type 0 = λ f. Reads view (Err f) (shifted start told) in
    subst R (sym is) tt

-- ---- the rows of files

-- rows with the blocks that the tables name are those that stand in the image
pub rows-are : (slots : List (Option Slot)) (number place : ℕ) (ids bytes : List ℕ) → rows_of number slots ids (tables_blocks place slots bytes)
    ≡ placed_rows number place slots ids bytes
unfolding rows_of placed_rows tables_blocks slot_table
rows-are [] number place ids bytes = refl
rows-are (None ∷ slots) number place ids bytes = ap (λ (l : List (Option PlacedFile)). None ∷ l) (rows-are slots (number + 1) (place + 4096)
    (drop 1 ids) bytes)
rows-are (Some own ∷ slots) number place ids bytes =
    let table = table_of own.blocks (piece place 4096 bytes) in
    let rest = tables_blocks (place + 4096) slots bytes in
    let long = length-table own.blocks (piece place 4096 bytes) in
    let File : List ℕ → Option PlacedFile = λ blocks. row_from number (Some own) (slice_index_or ids 0 0) blocks in
    ap (λ (b : List ℕ). File b ∷ rows_of (number + 1) slots (drop 1 ids) (drop own.blocks (table ++ rest))) (take_at table rest own.blocks long)
    ∙ ap (λ (b : List ℕ). File table ∷ rows_of (number + 1) slots (drop 1 ids) b) (drop_at table rest own.blocks long)
    ∙ ap (λ (l : List (Option PlacedFile)). File table ∷ l) (rows-are slots (number + 1) (place + 4096) (drop 1 ids) bytes)

pub row-passes : (i number : ℕ) (slots : List (Option Slot)) (slot : Option Slot) (ids others blocks behind : List ℕ) (row : Option PlacedFile)
    (done whole : List (Option PlacedFile)) → i < length slots → slot ≡ get_or slots i slot
    → row ≡ row_from number slot (slice_index_or ids 0 0) (take (blocks_of slot) blocks) → others ≡ drop 1 ids → behind ≡ drop (blocks_of slot) blocks
    → done ++ rows_of number (drop i slots) ids blocks ≡ whole → (done ++ row ∷ []) ++ rows_of (number + 1) (drop (i + 1) slots) others behind ≡ whole
unfolding rows_of
row-passes i number slots slot ids others blocks behind row done whole lt is row_is others_are behind_is so =
    let first = row_from number slot (slice_index_or ids 0 0) (take (blocks_of slot) blocks) in
    append_assoc done (row ∷ []) (rows_of (number + 1) (drop (i + 1) slots) others behind)
    ∙ ap (λ (r : Option PlacedFile). done ++ (r ∷ rows_of (number + 1) (drop (i + 1) slots) others behind)) row_is
    ∙ ap (λ (o : List ℕ). done ++ (first ∷ rows_of (number + 1) (drop (i + 1) slots) o behind)) others_are
    ∙ ap (λ (b : List ℕ). done ++ (first ∷ rows_of (number + 1) (drop (i + 1) slots) (drop 1 ids) b)) behind_is
    ∙ sym (ap (λ (l : List (Option Slot)). done ++ rows_of number l ids blocks) (one-more slots i slot lt is))
    ∙ so

pub no-row-left : (i number : ℕ) (slots : List (Option Slot)) (ids blocks : List ℕ) (done whole : List (Option PlacedFile)) → length slots ≤ i
    → done ++ rows_of number (drop i slots) ids blocks ≡ whole → done ≡ whole
unfolding rows_of
no-row-left i number slots ids blocks done whole le so =
    sym (append-nil done) ∙ sym (ap (λ (l : List (Option Slot)). done ++ rows_of number l ids blocks) (drop_all i slots le)) ∙ so

-- ---- the same, where a window is given

module _ (slots : List (Option Slot)) (tables start : ℕ) (marks : List Bool) (bytes window : List ℕ) (within : 4096 * length slots ≤ 1052672)
    (is : window ≡ piece start 1052672 bytes) where
  same-place : start + 0 ≡ start
  same-place = omega arith

  moved-there : AreLater tables start 0 slots marks window bytes
  moved-there =
      let There : List ℕ → Type 0 = λ w. AreLater tables start 0 slots marks w bytes in
      subst There (sym is) (tables-later slots tables start 1052672 0 marks bytes (omega (arith, within)))

  pub blocks-told-later : tested (tables_checks tables start slots marks bytes) (tables_blocks start slots bytes) ≡ shifted start
      (tested (tables_checks tables 0 slots marks window) (tables_blocks 0 slots window))
  blocks-told-later =
      let there = moved-there in
      ap (λ (n : ℕ). tested (tables_checks tables n slots marks bytes) (tables_blocks n slots bytes)) (sym same-place)
      ∙ ap (λ (b : List ℕ). tested (tables_checks tables (start + 0) slots marks bytes) b) there.blocks
      ∙ ap (λ (l : List Check). tested l (tables_blocks 0 slots window)) there.checks
      ∙ tested-later start (tables_checks tables 0 slots marks window) (tables_blocks 0 slots window)

  pub marks-later : tables_marks start slots marks bytes ≡ tables_marks 0 slots marks window
  marks-later = ap (λ (n : ℕ). tables_marks n slots marks bytes) (sym same-place) ∙ moved-there.marks_are

-- ---- the ids

pub ids-there : (start next place : ℕ) (slots : List (Option Slot)) (bytes window : List ℕ) → window ≡ piece start 1052672 bytes → place ≡ start
    + 1048576 → 1052672 ≤ length window
    → ids_in (start + 1048576) next slots bytes ≡ tested (ids_checks next place [] slots (piece 1048576 4096 window))
    (ids_of slots (piece 1048576 4096 window))
ids-there start next place slots bytes window is at long =
    let size = length-window start 1052672 bytes in
    let e = ap length is in
    let whole = is-long (start + 1048576 + 4096) (length bytes) (omega (arith, long, size, e)) in
    let here : piece 1048576 4096 window ≡ piece (start + 1048576) 4096 bytes = ap (piece 1048576 4096) is ∙ piece-in start 1052672 1048576 4096 bytes
    (omega arith) in
    ap (λ (b : Bool). if b then tested (ids_checks next (start + 1048576) [] slots (piece (start + 1048576) 4096 bytes))
    (ids_of slots (piece (start + 1048576) 4096 bytes)) else Err (start + 1048576)) whole
    ∙ ap (λ (t : List ℕ). tested (ids_checks next (start + 1048576) [] slots t) (ids_of slots t)) (sym here)
    ∙ ap (λ (n : ℕ). tested (ids_checks next n [] slots (piece 1048576 4096 window)) (ids_of slots (piece 1048576 4096 window))) (sym at)

pub ids-missing : (start next place : ℕ) (slots : List (Option Slot)) (bytes window : List ℕ) → window ≡ piece start 1052672 bytes → place ≡ start
    + 1048576 → length window < 1052672 → ids_in (start + 1048576) next slots bytes ≡ Err place
ids-missing start next place slots bytes window is at short =
    let size = length-window start 1052672 bytes in
    let e = ap length is in
    let missing = is-short (start + 1048576 + 4096) (length bytes) (omega (arith, short, size, e)) in
    ap (λ (b : Bool). if b then tested (ids_checks next (start + 1048576) [] slots (piece (start + 1048576) 4096 bytes))
    (ids_of slots (piece (start + 1048576) 4096 bytes)) else Err (start + 1048576)) missing
    ∙ ap (λ (n : ℕ). Err n) (sym at)
