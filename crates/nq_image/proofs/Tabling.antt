-- Tables of blocks and ids are read back.
use Rattle.std.proofs.Common.{◌≡◌, ◌≢◌, ◌≤◌, ◌<◌, ◌^◌, ◌+◌, ◌-◌, ◌*◌, ◌/◌, ◌==◌, ◌&&◌, ℕ, zero, suc, Bool, true, false, List, [], ◌∷◌, ◌++◌, Option}
use Rattle.std.proofs.Common.{Some, None, Ok, drop, length, get_or, if◌then◌else◌, refl, sym, ap, subst, ◌∙◌, arith, length-append}
use Rattle.std.specs.List.{All, list_any, position, prefix_len}
use Rattle.std.specs.Prelude.{min, nat_lt, nat_le, not}
use Rattle.std.specs.Int.{w32, to_be_bytes}
use Rattle.std.proofs.Math.Nat.{div-add-mod'}
use Rattle.std.proofs.lemmas.Bool.Decides.{nat_tests}
use Rattle.std.proofs.lemmas.List.{append_assoc, get_or-drop, get_or-set_other}
use Rattle.std.proofs.lemmas.List.Elements.{All-append, All-cons, All-nil, All-head, All-tail, All-weaker}
use Rattle.std.proofs.lemmas.List.Folds.{list_any_none}
use Rattle.std.proofs.lemmas.List.Sums.{sum_by-cons}
use Rattle.std.proofs.lemmas.Nat.{from_be_bytes-to_be_bytes_4}
use Rattle.nq_model.specs.protocol.Change.{AreApart, IsFileWithin}
use Rattle.nq_model.specs.protocol.Kept.{File, blocks_in_all, blocks_of as length_of}
use Rattle.nq_image.specs.Check.{check}
use Rattle.nq_image.specs.Kept.{numbers_from}
use Rattle.nq_image.specs.Layout.{piece, word_in, whole_blocks}
use Rattle.nq_image.specs.Tables.{held, held_from, ids_checks, ids_of, is_entry, is_id, is_marked, is_of_tables, marked, marks_behind, slot_checks}
use Rattle.nq_image.specs.Tables.{slot_marks, slot_table, table_checks, table_of, tables_blocks, tables_checks, tables_marks}
use Rattle.nq_image.specs.Writing.{entries_bytes, ids_bytes, table_bytes, tables_bytes, zeros_of}
use Rattle.nq_image.specs.declared.rows.Slot.{Slot}
use Rattle.nq_image.proofs.FileRows.{slot_for, slots_for}
use Rattle.nq_image.proofs.ReadBack.{Hold, and-two, and-three, ge-true, hold-append, le-true, length-zeros, lt-true, piece-there, zeros-are}

-- ---- marks

-- no block from this one on was given
abbrev pub AreFree : (block : ℕ) → List Bool → Type 0
AreFree block marks = (k : ℕ) → block ≤ k → is_marked marks k ≡ false

free-behind : (block : ℕ) (marks : List Bool) → AreFree block marks → AreFree (block + 1) (marked marks (block + 1))
free-behind block marks free k le =
    let e : block + 1 - 1 ≡ block = omega arith in
    let ne : k ≢ block + 1 - 1 = omega arith in
    get_or-set_other marks (block + 1 - 1) k true false ne ∙ free k (omega arith)

not-of-tables : (tables block : ℕ) → block < tables → not (is_of_tables tables block) ≡ true
not-of-tables tables block lt = ap (λ (b : Bool). not (b && nat_lt block (tables + 257))) (not-le tables block lt)
  where
    not-le : (m n : ℕ) → n < m → nat_le m n ≡ false
    not-le m n lt = grind (arith, nat_tests)

entry-holds : (tables block entry : ℕ) (marks : List Bool) → entry ≡ block + 1 → block < tables → tables ≤ 16384 → AreFree block marks
    → is_entry tables marks entry ≡ true
unfolding is_entry
entry-holds tables block entry marks is lt near free =
    let less : entry - 1 ≡ block = omega (arith, is) in
    and-two (nat_le 1 entry && nat_le entry 16641 && not (is_of_tables tables (entry - 1))) (not (is_marked marks (entry - 1)))
    (and-three (nat_le 1 entry) (nat_le entry 16641) (not (is_of_tables tables (entry - 1)))
    (ge-true entry (block + 1) 1 is (omega arith))
    (le-true entry (block + 1) 16641 is (omega arith))
    (ap (λ (b : ℕ). not (is_of_tables tables b)) less ∙ not-of-tables tables block lt))
    (ap (λ (b : ℕ). not (is_marked marks b)) less ∙ ap not (free block (omega arith)))

-- ---- sizes, and numbers one behind another

length-entries : (count block : ℕ) → length (entries_bytes count block) ≡ 4 * count
unfolding entries_bytes
length-entries zero block = refl
length-entries (suc count) block = omega (arith, length-entries count (block + 1))

pub length-table : (count block : ℕ) → count ≤ 1024 → length (table_bytes count block) ≡ 4096
unfolding table_bytes
length-table count block short = omega (
  arith,
  short,
  length-entries count block,
  length-zeros (4096 - 4 * count),
  length-append (entries_bytes count block) (zeros_of (4096 - 4 * count)),
)

pub length-tables : (count block next : ℕ) (files : List File) → All (IsFileWithin next) files → length (tables_bytes count block files) ≡ 4096 * count
unfolding tables_bytes
length-tables zero block next files within = refl
length-tables (suc count) block next [] within = omega (
  arith,
  length-zeros 4096,
  length-tables count block next [] within,
  length-append (zeros_of 4096) (tables_bytes count block []),
)
length-tables (suc count) block next (file ∷ files) within =
    let n = length_of file in
    let own = All-head (IsFileWithin next) file files within in
    omega (
      arith,
      length-table n block own.short,
      length-tables count (block + n) next files (All-tail (IsFileWithin next) file files within),
      length-append (table_bytes n block) (tables_bytes count (block + n) files),
    )

pub numbers-append : (first m n : ℕ) → numbers_from first m ++ numbers_from (first + m) n ≡ numbers_from first (m + n)
unfolding numbers_from
numbers-append first zero n = same first n
  where
    same : (first n : ℕ) → numbers_from (first + 0) n ≡ numbers_from first (0 + n)
    same first n = let e : first + 0 ≡ first = omega arith in let f : 0 + n ≡ n = omega arith in ap (λ (a : ℕ). numbers_from a n) e
        ∙ ap (λ (b : ℕ). numbers_from first b) (sym f)
numbers-append first (suc m) n =
    let e : first + suc m ≡ first + 1 + m = omega arith in
    let f : suc (m + n) ≡ suc m + n = omega arith in
    ap (λ (a : ℕ). first ∷ (numbers_from (first + 1) m ++ numbers_from a n)) e
    ∙ ap (λ (l : List ℕ). first ∷ l) (numbers-append (first + 1) m n)
    ∙ ap (λ (b : ℕ). numbers_from first b) f

-- ---- one table

-- what is known of a table with so many entries and zeros behind them
pub record IsTableBack (tables count place block : ℕ) (marks : List Bool) (rest : List ℕ) : Type 0 where
  pub holds : Hold (table_checks count tables place marks rest)
  pub blocks : table_of count rest ≡ numbers_from block count
  pub free : AreFree (block + count) (marks_behind count marks rest)

-- what is known of the tables of these files
pub record AreTablesBack (tables count place block : ℕ) (files : List File) (marks : List Bool) (bytes : List ℕ) : Type 0 where
  pub holds : Hold (tables_checks tables place (slots_for count files) marks bytes)
  pub blocks : tables_blocks place (slots_for count files) bytes ≡ numbers_from block (blocks_in_all files)
  pub free : AreFree (block + blocks_in_all files) (tables_marks place (slots_for count files) marks bytes)

module _ (tables : ℕ) (near : tables ≤ 16384) where
  word-of-block : (block : ℕ) (rest : List ℕ) → block < tables → word_in 0 (to_be_bytes w32 (block + 1) ++ rest) ≡ block + 1
  unfolding word_in
  word-of-block block rest lt = from_be_bytes-to_be_bytes_4 (block + 1) (omega arith)

  last-entry : (place block zeros : ℕ) (marks : List Bool) → AreFree block marks → IsTableBack tables zero place block marks (zeros_of zeros)
  unfolding table_checks table_of marks_behind numbers_from
  last-entry place block zeros marks free = record {
    holds = (zeros-are zeros, tt);
    blocks = refl;
    free = λ k le. free k (omega arith);
  }

  one-entry : (count place block : ℕ) (marks : List Bool) (bytes rest : List ℕ) → block < tables → AreFree block marks → word_in 0 bytes ≡ block + 1
      → drop 4 bytes ≡ rest → IsTableBack tables count (place + 4) (block + 1) (marked marks (block + 1)) rest → IsTableBack tables (suc count) place
      block marks bytes
  unfolding table_checks table_of marks_behind numbers_from
  one-entry count place block marks bytes rest lt free is behind more =
      let P : ℕ → List ℕ → Type 0 = λ w d. Hold (check place (is_entry tables marks w) ∷ table_checks count tables (place + 4) (marked marks w) d) in
      let less : block + 1 - 1 ≡ block = omega arith in
      let F : ℕ → Type 0 = λ n. AreFree n (marks_behind count (marked marks (block + 1)) rest) in
      let next : block + 1 + count ≡ block + suc count = omega arith in
      record {
        holds = subst (λ (w : ℕ). P w (drop 4 bytes)) (sym is) (subst (λ (d : List ℕ). P (block + 1) d) (sym behind)
            (entry-holds tables block (block + 1) marks refl lt near free, more.holds));
        blocks = ap (λ (w : ℕ). (w - 1) ∷ table_of count (drop 4 bytes)) is ∙ ap (λ (d : List ℕ). (block + 1 - 1) ∷ table_of count d) behind
            ∙ ap (λ (b : ℕ). b ∷ table_of count rest) less ∙ ap (λ (l : List ℕ). block ∷ l) more.blocks;
        free = subst (λ (w : ℕ). AreFree (block + suc count) (marks_behind count (marked marks w) (drop 4 bytes))) (sym is)
            (subst (λ (d : List ℕ). AreFree (block + suc count) (marks_behind count (marked marks (block + 1)) d)) (sym behind) (subst F next more.free));
      }

  entries-back : (count place block zeros : ℕ) (marks : List Bool) → block + count ≤ tables → AreFree block marks → IsTableBack tables count place
      block marks (entries_bytes count block ++ zeros_of zeros)
  unfolding entries_bytes
  entries-back zero place block zeros marks few free = last-entry place block zeros marks free
  entries-back (suc count) place block zeros marks few free =
      let rest = entries_bytes count (block + 1) ++ zeros_of zeros in
      one-entry count place block marks (to_be_bytes w32 (block + 1) ++ rest) rest (omega arith) free (word-of-block block rest (omega arith)) refl
      (entries-back count (place + 4) (block + 1) zeros (marked marks (block + 1)) (omega arith) (free-behind block marks free))

  pub table-back : (count place block : ℕ) (marks : List Bool) → block + count ≤ tables → AreFree block marks → IsTableBack tables count place block
      marks (table_bytes count block)
  unfolding table_bytes
  table-back count place block marks few free = entries-back count place block (4096 - 4 * count) marks few free

  -- ---- all tables

  table-whole : (place : ℕ) (pre table suf bytes : List ℕ) → bytes ≡ pre ++ (table ++ suf) → length pre ≡ place → length table ≡ 4096
      → nat_le (place + 4096) (length bytes) ≡ true
  table-whole place pre table suf bytes is at long =
      let e : length bytes ≡ place + 4096 + length suf = omega (arith, ap length is, length-append pre (table ++ suf), length-append table suf, at, long) in
      ge-true (length bytes) (place + 4096 + length suf) (place + 4096) e (omega arith)

  -- a table in front of others
  used-table : (count place block : ℕ) (file : File) (files : List File) (marks : List Bool) (table bytes : List ℕ) → nat_le (place + 4096)
      (length bytes) ≡ true → piece place 4096 bytes ≡ table → IsTableBack tables (length_of file) place block marks table → AreTablesBack tables
      count (place + 4096) (block + length_of file) files (marks_behind (length_of file) marks table) bytes → AreTablesBack tables (suc count) place
      block (file ∷ files) marks bytes
  unfolding slots_for tables_checks tables_blocks tables_marks slot_checks slot_table slot_marks
  used-table count place block file files marks table bytes whole is own more =
      let n = length_of file in
      let slots = slots_for count files in
      let sums = sum_by-cons length_of file files in
      let Checks : List ℕ → Type 0 = λ t. Hold (check place (nat_le (place + 4096) (length bytes)) ∷ (table_checks n tables place marks t
      ++ tables_checks tables (place + 4096) slots (marks_behind n marks t) bytes)) in
      let Free : List ℕ → Type 0 = λ t. AreFree (block + blocks_in_all (file ∷ files)) (tables_marks (place + 4096) slots (marks_behind n marks t) bytes) in
      let F : ℕ → Type 0 = λ k. AreFree k (tables_marks (place + 4096) slots (marks_behind n marks table) bytes) in
      let next : block + n + blocks_in_all files ≡ block + blocks_in_all (file ∷ files) = omega (arith, sums) in
      record {
        holds = subst Checks (sym is) (
          whole,
          hold-append (table_checks n tables place marks table) (tables_checks tables (place + 4096) slots
              (marks_behind n marks table) bytes) own.holds more.holds,
        );
        blocks = ap (λ (t : List ℕ). table_of n t ++ tables_blocks (place + 4096) slots bytes) is
            ∙ ap (λ (l : List ℕ). l ++ tables_blocks (place + 4096) slots bytes) own.blocks
            ∙ ap (λ (l : List ℕ). numbers_from block n ++ l) more.blocks
            ∙ numbers-append block n (blocks_in_all files)
            ∙ ap (λ (k : ℕ). numbers_from block k) (sym sums);
        free = subst Free (sym is) (subst F next more.free);
      }

  unused-table : (count place block : ℕ) (marks : List Bool) (bytes : List ℕ) → nat_le (place + 4096) (length bytes) ≡ true → AreTablesBack tables
      count (place + 4096) block [] marks bytes → AreTablesBack tables (suc count) place block [] marks bytes
  unfolding slots_for tables_checks tables_blocks tables_marks slot_checks slot_table slot_marks
  unused-table count place block marks bytes whole more = record {
    holds = (whole, more.holds);
    blocks = more.blocks;
    free = more.free;
  }

  no-tables : (place block : ℕ) (marks : List Bool) (bytes : List ℕ) → AreFree block marks → AreTablesBack tables zero place block [] marks bytes
  unfolding slots_for tables_checks tables_blocks tables_marks numbers_from
  no-tables place block marks bytes free = record {
    holds = tt;
    blocks = refl;
    free = λ k le. free k (omega arith);
  }

  shifted : (pre table more suf bytes : List ℕ) → bytes ≡ pre ++ ((table ++ more) ++ suf) → bytes ≡ pre ++ (table ++ (more ++ suf))
  shifted pre table more suf bytes is = is ∙ ap (λ (b : List ℕ). pre ++ b) (append_assoc table more suf)

  pub tables-back : (count place block next : ℕ) (files : List File) (marks : List Bool) (pre suf bytes : List ℕ) → bytes ≡ pre
      ++ (tables_bytes count block files ++ suf) → length pre ≡ place → length files ≤ count → All (IsFileWithin next) files → block + blocks_in_all
      files ≤ tables → AreFree block marks → AreTablesBack tables count place block files marks bytes
  unfolding tables_bytes
  tables-back zero place block next [] marks pre suf bytes is at all within few free = no-tables place block marks bytes free
  tables-back zero place block next (file ∷ files) marks pre suf bytes is at all within few free = absurd (omega arith)
  tables-back (suc count) place block next [] marks pre suf bytes is at all within few free =
      let table = zeros_of 4096 in
      let more = tables_bytes count block [] in
      let flat = shifted pre table more suf bytes is in
      let whole = table-whole place pre table (more ++ suf) bytes flat at (length-zeros 4096) in
      unused-table count place block marks bytes whole
      (tables-back count (place + 4096) block next [] marks (pre ++ table) suf bytes (flat ∙ sym (append_assoc pre table (more ++ suf)))
      (omega (arith, at, length-append pre table, length-zeros 4096)) (omega arith) within few free)
  tables-back (suc count) place block next (file ∷ files) marks pre suf bytes is at all within few free =
      let own = All-head (IsFileWithin next) file files within in
      let n = length_of file in
      let sums = sum_by-cons length_of file files in
      let table = table_bytes n block in
      let more = tables_bytes count (block + n) files in
      let flat = shifted pre table more suf bytes is in
      let long = length-table n block own.short in
      let back = table-back n place block marks (omega (arith, few, sums)) free in
      used-table count place block file files marks table bytes (table-whole place pre table (more ++ suf) bytes flat at long)
      (piece-there place 4096 pre table (more ++ suf) bytes flat at long) back
      (tables-back count (place + 4096) (block + n) next files (marks_behind n marks table) (pre ++ table) suf bytes
      (flat ∙ sym (append_assoc pre table (more ++ suf))) (omega (arith, at, length-append pre table, long)) (omega arith)
      (All-tail (IsFileWithin next) file files within) (omega (arith, few, sums)) back.free)

-- ---- ids

-- the ids of so many rows
unfoldable pub ids_for : (count : ℕ) → List File → List ℕ
ids_for zero files = []
ids_for (suc count) [] = 0 ∷ ids_for count []
ids_for (suc count) (file ∷ files) = file.id ∷ ids_for count files

not-known : (known : List ℕ) (id : ℕ) → All (λ k. k < id) known → not (list_any (λ k. k == id) known) ≡ true
not-known known id all = ap not (list_any_none (λ k. k == id) known (All-weaker (λ k. k < id) (λ k. (k == id) ≡ false) (λ k lt. other k id lt) known all))
  where
    other : (k id : ℕ) → k < id → (k == id) ≡ false
    other k id lt = grind (arith, nat_tests)

id-holds : (next word : ℕ) (known : List ℕ) (slot : Slot) (id : ℕ) → word ≡ id → 1 ≤ id → id < next → All (λ k. k < id) known
    → is_id next known (Some slot) word ≡ true
unfolding is_id
id-holds next word known slot id is some lt all =
    ap (λ (w : ℕ). nat_le 1 w && nat_lt w next && not (list_any (λ k. k == w) known)) is
    ∙ and-three (nat_le 1 id) (nat_lt id next) (not (list_any (λ k. k == id) known)) (ge-true id id 1 refl some) (lt-true id id next refl lt)
    (not-known known id all)

one-id : (next place count word : ℕ) (known : List ℕ) (slot : Option Slot) (slots : List (Option Slot)) (bytes rest : List ℕ) → word_in 0 bytes ≡ word
    → drop 4 bytes ≡ rest → is_id next known slot word ≡ true → Hold (ids_checks next (place + 4) (known ++ word ∷ []) slots rest)
    → Hold (ids_checks next place known (slot ∷ slots) bytes)
unfolding ids_checks
one-id next place count word known slot slots bytes rest is behind own more =
    let P : ℕ → List ℕ → Type 0 = λ w d. Hold (check place (is_id next known slot w) ∷ ids_checks next (place + 4) (known ++ w ∷ []) slots d) in
    subst (λ (w : ℕ). P w (drop 4 bytes)) (sym is) (subst (λ (d : List ℕ). P word d) (sym behind) (own, more))

one-id-is : (word : ℕ) (slot : Option Slot) (slots : List (Option Slot)) (bytes rest ids : List ℕ) → word_in 0 bytes ≡ word → drop 4 bytes ≡ rest
    → ids_of slots rest ≡ ids → ids_of (slot ∷ slots) bytes ≡ word ∷ ids
unfolding ids_of
one-id-is word slot slots bytes rest ids is behind more =
    ap (λ (w : ℕ). w ∷ ids_of slots (drop 4 bytes)) is ∙ ap (λ (d : List ℕ). word ∷ ids_of slots d) behind ∙ ap (λ (l : List ℕ). word ∷ l) more

pub zero-word : (rest : List ℕ) → word_in 0 (0 ∷ 0 ∷ 0 ∷ 0 ∷ rest) ≡ 0
unfolding word_in
zero-word rest = refl

pub id-word : (id : ℕ) (rest : List ℕ) → id < 2 ^ 32 → word_in 0 (to_be_bytes w32 id ++ rest) ≡ id
unfolding word_in
id-word id rest lt = from_be_bytes-to_be_bytes_4 id lt

last-holds : (next place zeros : ℕ) (known : List ℕ) → Hold (ids_checks next place known [] (zeros_of zeros))
unfolding ids_checks
last-holds next place zeros known = (zeros-are zeros, tt)

last-is : (zeros : ℕ) → ids_of [] (zeros_of zeros) ≡ []
unfolding ids_of
last-is zeros = refl

unused-id : (next : ℕ) (known : List ℕ) → is_id next known None 0 ≡ true
unfolding is_id
unused-id next known = refl

pub ids-hold : (count next place zeros : ℕ) (known : List ℕ) (files : List File) → next ≤ 2147483648 → All (IsFileWithin next) files → AreApart files
    → All (λ f. All (λ k. k < f.id) known) files → Hold (ids_checks next place known (slots_for count files) (ids_bytes count files ++ zeros_of zeros))
unfolding slots_for ids_bytes
ids-hold zero next place zeros known files few within apart all = last-holds next place zeros known
ids-hold (suc count) next place zeros known [] few within apart all =
    let rest = ids_bytes count [] ++ zeros_of zeros in
    one-id next place count 0 known None (slots_for count []) (0 ∷ 0 ∷ 0 ∷ 0 ∷ rest) rest (zero-word rest) refl (unused-id next known)
    (ids-hold count next (place + 4) zeros (known ++ 0 ∷ []) [] few within apart (All-nil (λ f. All (λ k. k < f.id) (known ++ 0 ∷ []))))
ids-hold (suc count) next place zeros known (file ∷ files) few within apart all =
    let own = All-head (IsFileWithin next) file files within in
    let rest = ids_bytes count files ++ zeros_of zeros in
    let below = own.below_next in
    let earlier = All-head (λ f. All (λ k. k < f.id) known) file files all in
    one-id next place count file.id known (Some (slot_for file)) (slots_for count files) (to_be_bytes w32 file.id ++ rest) rest
    (id-word file.id rest (omega arith)) refl
    (id-holds next file.id known (slot_for file) file.id refl own.from_one below earlier)
    (ids-hold count next (place + 4) zeros (known ++ file.id ∷ []) files few (All-tail (IsFileWithin next) file files within) apart.2
    (more known file files (All-tail (λ f. All (λ k. k < f.id) known) file files all) apart.0))
  where
    more : (known : List ℕ) (file : File) (files : List File) → All (λ f. All (λ k. k < f.id) known) files → All (λ later. file.id < later.id) files
        → All (λ f. All (λ k. k < f.id) (known ++ file.id ∷ [])) files
    more known file [] all later = All-nil (λ f. All (λ k. k < f.id) (known ++ file.id ∷ []))
    more known file (f ∷ files) all later =
        All-cons (λ f. All (λ k. k < f.id) (known ++ file.id ∷ [])) f files
        (All-append (λ k. k < f.id) known (file.id ∷ []) (All-head (λ f. All (λ k. k < f.id) known) f files all) (All-cons (λ k. k < f.id) file.id []
        (All-head (λ later. file.id < later.id) f files later) (All-nil (λ k. k < f.id))))
        (more known file files (All-tail (λ f. All (λ k. k < f.id) known) f files all) (All-tail (λ later. file.id < later.id) f files later))

pub ids-are : (count next zeros : ℕ) (files : List File) → next ≤ 2147483648 → All (IsFileWithin next) files → ids_of (slots_for count files)
    (ids_bytes count files ++ zeros_of zeros) ≡ ids_for count files
unfolding slots_for ids_bytes ids_for
ids-are zero next zeros files few within = last-is zeros
ids-are (suc count) next zeros [] few within =
    let rest = ids_bytes count [] ++ zeros_of zeros in
    one-id-is 0 None (slots_for count []) (0 ∷ 0 ∷ 0 ∷ 0 ∷ rest) rest (ids_for count []) (zero-word rest) refl (ids-are count next zeros [] few within)
ids-are (suc count) next zeros (file ∷ files) few within =
    let own = All-head (IsFileWithin next) file files within in
    let below = own.below_next in
    let rest = ids_bytes count files ++ zeros_of zeros in
    one-id-is file.id (Some (slot_for file)) (slots_for count files) (to_be_bytes w32 file.id ++ rest) rest (ids_for count files)
    (id-word file.id rest (omega arith)) refl (ids-are count next zeros files few (All-tail (IsFileWithin next) file files within))

pub length-ids : (count : ℕ) (files : List File) → length (ids_bytes count files) ≡ 4 * count
unfolding ids_bytes
length-ids zero files = refl
length-ids (suc count) [] = omega (arith, length-ids count [])
length-ids (suc count) (file ∷ files) = omega (arith, length-ids count files)

-- ---- what is held

no-mark : (b : Bool) (n len : ℕ) (x : Option ℕ) → b ≡ false → (if b then x else None) ≡ None
no-mark true n len x e = cc
no-mark false n len x e = refl

first-mark : (marks : List Bool) → ((k : ℕ) → get_or marks k false ≡ false) → length marks ≤ prefix_len (λ mark. not mark) marks
first-mark [] free = omega arith
first-mark (true ∷ marks) free = let wrong : true ≡ false = free 0 in cc
first-mark (false ∷ marks) free = let rest = first-mark marks (λ k. free (suc k)) in omega (arith, rest)

pub none-marked : (marks : List Bool) → ((k : ℕ) → get_or marks k false ≡ false) → position (λ mark. mark) marks ≡ None
none-marked marks free =
    let n = prefix_len (λ mark. not mark) marks in
    no-mark (nat_lt n (length marks)) n (length marks) (Some n) (not-lt n (length marks) (first-mark marks free))
  where
    not-lt : (m n : ℕ) → n ≤ m → nat_lt m n ≡ false
    not-lt m n le = grind (arith, nat_tests)

pub all-held : (size tables : ℕ) (marks : List Bool) → AreFree tables marks → length marks ≡ 16641 → tables ≤ 16384 → 40960 + 4096 * tables ≤ size
    → held size marks ≡ Ok tt
unfolding held whole_blocks
all-held size tables marks free long near most =
    let whole = min ((size - 40960) / 4096) (length marks) in
    let e = div-add-mod' (size - 40960) 4096 in
    let enough : tables ≤ whole = omega (arith, e, long, near, most) in
    ap (λ (m : Option ℕ). held_from whole m)
    (none-marked (drop whole marks) (λ k. get_or-drop whole marks k false ∙ free (whole + k) (omega (arith, enough))))
