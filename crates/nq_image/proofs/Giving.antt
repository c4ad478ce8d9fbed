-- The blocks of the files of an image: each is given once, and the disk holds each whole.
use Rattle.std.proofs.Common.{◌≡◌, ◌≤◌, ◌<◌, ◌+◌, ◌-◌, inl, inr, ℕ, zero, suc, Bool, true, false, ◌&&◌, List, [], ◌∷◌, ◌++◌, Option, Some, None, Ok}
use Rattle.std.proofs.Common.{drop, length, get_or, if◌then◌else◌, refl, sym, ap, subst, ◌∙◌, arith, length-append}
use Rattle.std.specs.List.{All, position, prefix_len, sum_by}
use Rattle.std.specs.Prelude.{min, nat_lt, nat_le, not, slice_set}
use Rattle.std.proofs.Math.Nat.{div-add-mod'}
use Rattle.std.proofs.lemmas.Bool.{cases_eq, cases_lt}
use Rattle.std.proofs.lemmas.Bool.Decides.{nat_tests}
use Rattle.std.proofs.lemmas.List.{get_or-drop, get_or-set_same, get_or-set_other, get_or_past, length-set}
use Rattle.std.proofs.lemmas.List.Elements.{All-append, All-cons, All-nil, All-head, All-tail, All-weaker}
use Rattle.std.proofs.lemmas.List.Sums.{prefix_len_passes, sum_by-cons}
use Rattle.nq_image.specs.Check.{check}
use Rattle.nq_image.specs.Kept.{numbers_from}
use Rattle.nq_image.specs.Layout.{block_place, piece, word_in, whole_blocks}
use Rattle.nq_image.specs.Rows.{blocks_of}
use Rattle.nq_image.specs.Tables.{held, held_from, is_entry, is_marked, is_of_tables, marked, marked_from, marks_behind, slot_checks, slot_marks}
use Rattle.nq_image.specs.Tables.{slot_table, table_checks, table_of, tables_blocks, tables_checks, tables_marks}
use Rattle.nq_image.specs.declared.rows.Slot.{Slot}
use Rattle.nq_image.proofs.Holding.{Right, not-true, right-behind, right-front, test-le}

-- a block that the disk of so many bytes holds whole
abbrev pub IsHeld : (size block : ℕ) → Type 0
IsHeld size block = block_place block + 4096 ≤ size

pub whole-is-held : (size block : ℕ) → block < whole_blocks size → IsHeld size block
unfolding whole_blocks
whole-is-held size block lt = let e = div-add-mod' (size - 40960) 4096 in omega (arith, e, lt)

-- ---- marks

abbrev pub IsGiven : List Bool → ℕ → Type 0
IsGiven marks block = is_marked marks block ≡ true

set-keeps : (marks : List Bool) (i block : ℕ) → i < length marks → IsGiven marks block → IsGiven (slice_set marks i true) block
set-keeps marks i block lt given = elim (cases_eq block i) [
  | inl e ↦ subst (IsGiven (slice_set marks i true)) (sym e) (get_or-set_same marks i true false lt)
  | inr ne ↦ get_or-set_other marks i block true false ne ∙ given
]

entry-within : (tables : ℕ) (marks : List Bool) (entry : ℕ) → length marks ≡ 16641 → is_entry tables marks entry ≡ true → entry - 1 < length marks
unfolding is_entry
entry-within tables marks entry size h =
    let two = each-four (nat_le 1 entry) (nat_le entry 16641) (not (is_of_tables tables (entry - 1))) (not (is_marked marks (entry - 1))) h in
    let a = test-le 1 entry two.0 in
    let b = test-le entry 16641 two.1 in
    omega (arith, a, b, size)
  where
    each-four : (a b c d : Bool) → (a && b && c && d) ≡ true → (a ≡ true) × (b ≡ true)
    each-four true true c d h = (refl, refl)
    each-four true false c d h = cc
    each-four false b c d h = cc

length-marked : (marks : List Bool) (i : ℕ) → length (slice_set marks i true) ≡ length marks
length-marked marks i = length-set marks i true

pub table-keeps : (count tables place : ℕ) (marks : List Bool) (rest : List ℕ) (block : ℕ) → length marks ≡ 16641
    → All Right (table_checks count tables place marks rest) → IsGiven marks block → IsGiven (marks_behind count marks rest) block
unfolding table_checks marks_behind
table-keeps zero tables place marks rest block size h given = given
table-keeps (suc count) tables place marks rest block size h given =
    let entry = word_in 0 rest in
    let first = check place (is_entry tables marks entry) in
    let behind = table_checks count tables (place + 4) (marked marks entry) (drop 4 rest) in
    let lt = entry-within tables marks entry size (All-head Right first behind h) in
    table-keeps count tables (place + 4) (marked marks entry) (drop 4 rest) block (length-marked marks (entry - 1) ∙ size)
    (All-tail Right first behind h) (set-keeps marks (entry - 1) block lt given)

pub table-gives : (count tables place : ℕ) (marks : List Bool) (rest : List ℕ) → length marks ≡ 16641
    → All Right (table_checks count tables place marks rest) → All (IsGiven (marks_behind count marks rest)) (table_of count rest)
unfolding table_checks marks_behind table_of
table-gives zero tables place marks rest size h = All-nil (IsGiven marks)
table-gives (suc count) tables place marks rest size h =
    let entry = word_in 0 rest in
    let own = marked marks entry in
    let first = check place (is_entry tables marks entry) in
    let behind = table_checks count tables (place + 4) own (drop 4 rest) in
    let lt = entry-within tables marks entry size (All-head Right first behind h) in
    let long = length-marked marks (entry - 1) ∙ size in
    let right = All-tail Right first behind h in
    let last = marks_behind count own (drop 4 rest) in
    All-cons (IsGiven last) (entry - 1) (table_of count (drop 4 rest))
    (table-keeps count tables (place + 4) own (drop 4 rest) (entry - 1) long right (get_or-set_same marks (entry - 1) true false lt))
    (table-gives count tables (place + 4) own (drop 4 rest) long right)

pub length-behind : (count : ℕ) (marks : List Bool) (rest : List ℕ) → length (marks_behind count marks rest) ≡ length marks
unfolding marks_behind
length-behind zero marks rest = refl
length-behind (suc count) marks rest = length-behind count (marked marks (word_in 0 rest)) (drop 4 rest) ∙ length-marked marks (word_in 0 rest - 1)

pub length-table : (count : ℕ) (rest : List ℕ) → length (table_of count rest) ≡ count
unfolding table_of
length-table zero rest = refl
length-table (suc count) rest = let e = length-table count (drop 4 rest) in omega (arith, e)

-- ---- the tables of rows

slot-length : (slot : Option Slot) (marks : List Bool) (table : List ℕ) → length (slot_marks slot marks table) ≡ length marks
unfolding slot_marks
slot-length None marks table = refl
slot-length (Some slot) marks table = length-behind slot.blocks marks table

slot-keeps : (tables place : ℕ) (slot : Option Slot) (marks : List Bool) (table : List ℕ) (block : ℕ) → length marks ≡ 16641
    → All Right (slot_checks tables place slot marks table) → IsGiven marks block → IsGiven (slot_marks slot marks table) block
unfolding slot_checks slot_marks
slot-keeps tables place None marks table block size h given = given
slot-keeps tables place (Some slot) marks table block size h given = table-keeps slot.blocks tables place marks table block size h given

slot-gives : (tables place : ℕ) (slot : Option Slot) (marks : List Bool) (table : List ℕ) → length marks ≡ 16641
    → All Right (slot_checks tables place slot marks table) → All (IsGiven (slot_marks slot marks table)) (slot_table slot table)
unfolding slot_checks slot_marks slot_table
slot-gives tables place None marks table size h = All-nil (IsGiven marks)
slot-gives tables place (Some slot) marks table size h = table-gives slot.blocks tables place marks table size h

slot-blocks : (slot : Option Slot) (table : List ℕ) → length (slot_table slot table) ≡ blocks_of slot
unfolding slot_table
slot-blocks None table = refl
slot-blocks (Some slot) table = length-table slot.blocks table

own-checks : (tables place : ℕ) (slot : Option Slot) (slots : List (Option Slot)) (marks : List Bool) (bytes : List ℕ)
    → All Right (tables_checks tables place (slot ∷ slots) marks bytes) → All Right (slot_checks tables place slot marks (piece place 4096 bytes))
    × All Right (tables_checks tables (place + 4096) slots (slot_marks slot marks (piece place 4096 bytes)) bytes)
unfolding tables_checks
own-checks tables place slot slots marks bytes h =
    let first = check place (nat_le (place + 4096) (length bytes)) in
    let front = slot_checks tables place slot marks (piece place 4096 bytes) in
    let behind = tables_checks tables (place + 4096) slots (slot_marks slot marks (piece place 4096 bytes)) bytes in
    let both = All-tail Right first (front ++ behind) h in
    (right-front front behind both, right-behind front behind both)

pub tables-length : (place : ℕ) (slots : List (Option Slot)) (marks : List Bool) (bytes : List ℕ) → length (tables_marks place slots marks bytes)
    ≡ length marks
unfolding tables_marks
tables-length place [] marks bytes = refl
tables-length place (slot ∷ slots) marks bytes =
    tables-length (place + 4096) slots (slot_marks slot marks (piece place 4096 bytes)) bytes ∙ slot-length slot marks (piece place 4096 bytes)

tables-keep : (tables place : ℕ) (slots : List (Option Slot)) (marks : List Bool) (bytes : List ℕ) (block : ℕ) → length marks ≡ 16641
    → All Right (tables_checks tables place slots marks bytes) → IsGiven marks block → IsGiven (tables_marks place slots marks bytes) block
unfolding tables_marks
tables-keep tables place [] marks bytes block size h given = given
tables-keep tables place (slot ∷ slots) marks bytes block size h given =
    let table = piece place 4096 bytes in
    let own = own-checks tables place slot slots marks bytes h in
    tables-keep tables (place + 4096) slots (slot_marks slot marks table) bytes block (slot-length slot marks table ∙ size) own.1
    (slot-keeps tables place slot marks table block size own.0 given)

pub tables-give : (tables place : ℕ) (slots : List (Option Slot)) (marks : List Bool) (bytes : List ℕ) → length marks ≡ 16641
    → All Right (tables_checks tables place slots marks bytes) → All (IsGiven (tables_marks place slots marks bytes)) (tables_blocks place slots bytes)
unfolding tables_marks tables_blocks
tables-give tables place [] marks bytes size h = All-nil (IsGiven marks)
tables-give tables place (slot ∷ slots) marks bytes size h =
    let table = piece place 4096 bytes in
    let own = own-checks tables place slot slots marks bytes h in
    let then_marks = slot_marks slot marks table in
    let long = slot-length slot marks table ∙ size in
    let last = tables_marks (place + 4096) slots then_marks bytes in
    All-append (IsGiven last) (slot_table slot table) (tables_blocks (place + 4096) slots bytes)
    (All-weaker (IsGiven then_marks) (IsGiven last) (λ block given. tables-keep tables (place + 4096) slots then_marks bytes block long own.1 given)
    (slot_table slot table) (slot-gives tables place slot marks table size own.0))
    (tables-give tables (place + 4096) slots then_marks bytes long own.1)

pub tables-length-blocks : (place : ℕ) (slots : List (Option Slot)) (bytes : List ℕ) → length (tables_blocks place slots bytes) ≡ sum_by blocks_of slots
unfolding tables_blocks
tables-length-blocks place [] bytes = refl
tables-length-blocks place (slot ∷ slots) bytes =
    let table = piece place 4096 bytes in
    let a = slot-blocks slot table in
    let b = tables-length-blocks (place + 4096) slots bytes in
    omega (arith, a, b, length-append (slot_table slot table) (tables_blocks (place + 4096) slots bytes), sum_by-cons blocks_of slot slots)

-- ---- what is held

no-position : (b : Bool) (n len : ℕ) → nat_lt n len ≡ b → (if b then Some n else None) ≡ None → len ≤ n
no-position true n len is h = cc
no-position false n len is h = grind (arith, nat_tests)

none-marked : (marks : List Bool) (k : ℕ) → position (λ mark. mark) marks ≡ None → get_or marks k false ≡ false
none-marked marks k none =
    let n = prefix_len (λ mark. not mark) marks in
    let all = no-position (nat_lt n (length marks)) n (length marks) refl none in
    elim (cases_lt k (length marks)) [
      | inl lt ↦ not-true (get_or marks k false) (prefix_len_passes (λ mark. not mark) marks k false (omega arith))
      | inr le ↦ get_or_past marks k false le
    ]

not-marked : (block : ℕ) (marks : List Bool) (i : ℕ) (found : Option ℕ) → marked_from block marks ≡ found → held_from block found ≡ Ok tt → block ≤ i
    → IsGiven marks i → ⊥
not-marked block marks i None is h le given =
    let e : block + (i - block) ≡ i = omega arith in
    let none = none-marked (drop block marks) (i - block) is in
    let same : get_or (drop block marks) (i - block) false ≡ get_or marks i false = get_or-drop block marks (i - block) false
    ∙ ap (λ (j : ℕ). get_or marks j false) e in
    let wrong : true ≡ false = sym given ∙ sym same ∙ none in
    cc
not-marked block marks i (Some behind) is h le given = cc

pub given-is-held : (size : ℕ) (marks : List Bool) (block : ℕ) → held size marks ≡ Ok tt → IsGiven marks block → IsHeld size block
unfolding held
given-is-held size marks block h given =
    let whole = min (whole_blocks size) (length marks) in
    elim (cases_lt block whole) [
      | inl lt ↦ whole-is-held size block (omega arith)
      | inr le ↦ absurd (not-marked whole marks block (marked_from whole marks) refl h le given)
    ]

-- ---- blocks one behind another

pub length-numbers : (first count : ℕ) → length (numbers_from first count) ≡ count
unfolding numbers_from
length-numbers first zero = refl
length-numbers first (suc count) = let e = length-numbers (first + 1) count in omega (arith, e)

pub numbers-below : (first count end : ℕ) → first + count ≤ end → All (λ b. b < end) (numbers_from first count)
unfolding numbers_from
numbers-below first zero end le = All-nil (λ b. b < end)
numbers-below first (suc count) end le =
    All-cons (λ b. b < end) first (numbers_from (first + 1) count) (omega arith) (numbers-below (first + 1) count end (omega arith))
