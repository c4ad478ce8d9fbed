-- The blocks of files, each given once.
use Rattle.std.proofs.Common.{◌≡◌, ◌≤◌, ◌<◌, ◌+◌, ◌-◌, ◌*◌, ◌&&◌, ℕ, zero, suc, Bool, true, false, List, [], ◌∷◌, ◌++◌, Option, Some}
use Rattle.std.proofs.Common.{None, take, drop, map, length, refl, sym, ap, subst, ◌∙◌, arith}
use Rattle.std.specs.Prelude.{nat_le, not, slice_set}
use Rattle.std.specs.Int.{w32, to_be_bytes}
use Rattle.std.proofs.lemmas.List.{drop_at, take_at}
use Rattle.std.proofs.lemmas.Nat.{from_be_bytes-to_be_bytes_4}
use Rattle.nq_image.specs.Check.{check}
use Rattle.nq_image.specs.Layout.{piece, word_in}
use Rattle.nq_image.specs.Standing.{IsFileBlock, PlacedFile, blocks_in, marks_with, row_blocks, row_slot}
use Rattle.nq_image.specs.Tables.{is_entry, is_marked, is_of_tables, marked, marks_behind, slot_checks, slot_marks, slot_table, table_checks}
use Rattle.nq_image.specs.Tables.{table_of, tables_blocks, tables_checks, tables_marks}
use Rattle.nq_image.specs.Writing.{entries_of, table_of_blocks, zeros_of}
use Rattle.nq_image.proofs.Agreeing.{SameFrom, hold-behind, hold-front, le-longer, same-first, same-rest}
use Rattle.nq_image.proofs.ReadBack.{Hold, and-two, and-three, ge-true, hold-append, le-true, zeros-are}
use Rattle.nq_image.proofs.GivenBlocks.{AllGiven, given-append, given-behind, given-front, table-behind, table-given}

pub marks-are : (count : ℕ) (marks : List Bool) (rest : List ℕ) → marks_behind count marks rest ≡ marks_with marks (table_of count rest)
unfolding marks_behind table_of marks_with
marks-are zero marks rest = refl
marks-are (suc count) marks rest = marks-are count (marked marks (word_in 0 rest)) (drop 4 rest)

-- ---- a table as it is written

pub record IsTableWritten (tables place : ℕ) (marks : List Bool) (blocks rest : List ℕ) : Type 0 where
  pub holds : Hold (table_checks (length blocks) tables place marks rest)
  pub blocks_are : table_of (length blocks) rest ≡ blocks

entry-written : (tables block word : ℕ) (marks : List Bool) → word ≡ block + 1 → IsFileBlock tables block → is_marked marks block ≡ false
    → is_entry tables marks word ≡ true
unfolding is_entry
entry-written tables block word marks is own free =
    let less : word - 1 ≡ block = omega (arith, is) in
    let below = own.below in
    and-two (nat_le 1 word && nat_le word 16641 && not (is_of_tables tables (word - 1))) (not (is_marked marks (word - 1)))
    (and-three (nat_le 1 word) (nat_le word 16641) (not (is_of_tables tables (word - 1)))
    (ge-true word (block + 1) 1 is (omega arith))
    (le-true word (block + 1) 16641 is (omega arith))
    (ap (λ (b : ℕ). not (is_of_tables tables b)) less ∙ ap not own.apart))
    (ap (λ (b : ℕ). not (is_marked marks b)) less ∙ ap not free)

word-of : (block : ℕ) (rest : List ℕ) → block < 16641 → word_in 0 (to_be_bytes w32 (block + 1) ++ rest) ≡ block + 1
unfolding word_in
word-of block rest lt = from_be_bytes-to_be_bytes_4 (block + 1) (omega arith)

entries-written : (blocks : List ℕ) (tables place zeros : ℕ) (marks : List Bool) → AllGiven tables marks blocks → IsTableWritten tables place marks
    blocks (entries_of blocks ++ zeros_of zeros)
unfolding entries_of table_checks table_of
entries-written [] tables place zeros marks given = record { holds = (zeros-are zeros, tt); blocks_are = refl }
entries-written (block ∷ blocks) tables place zeros marks given =
    let rest = entries_of blocks ++ zeros_of zeros in
    let word = word-of block rest given.0.below in
    let less : block + 1 - 1 ≡ block = omega arith in
    let more = entries-written blocks tables (place + 4) zeros (slice_set marks block true) given.2 in
    let count = length blocks in
    let P : ℕ → Type 0 = λ w. Hold (check place (is_entry tables marks w) ∷ table_checks count tables (place + 4) (slice_set marks (w - 1) true) rest) in
    let Q : ℕ → Type 0 = λ b. Hold (table_checks count tables (place + 4) (slice_set marks b true) rest) in
    record {
      holds = subst P (sym word) (entry-written tables block (block + 1) marks refl given.0 given.1, subst Q (sym less) more.holds);
      blocks_are = ap (λ (w : ℕ). (w - 1) ∷ table_of count rest) word ∙ ap (λ (b : ℕ). b ∷ table_of count rest) less ∙ ap (λ (l : List ℕ). block ∷ l)
          more.blocks_are;
    }

pub table-written : (blocks : List ℕ) (tables place : ℕ) (marks : List Bool) → AllGiven tables marks blocks → IsTableWritten tables place marks blocks
    (table_of_blocks blocks)
unfolding table_of_blocks
table-written blocks tables place marks given = entries-written blocks tables place (4096 - 4 * length blocks) marks given

-- ---- the tables of rows

pub length-table : (count : ℕ) (rest : List ℕ) → length (table_of count rest) ≡ count
unfolding table_of
length-table zero rest = refl
length-table (suc count) rest = let e = length-table count (drop 4 rest) in omega (arith, e)

length-own : (row : Option PlacedFile) (table : List ℕ) → length (slot_table (row_slot row) table) ≡ length (row_blocks row)
unfolding slot_table
length-own None table = refl
length-own (Some file) table = length-table (length file.blocks) table

append-parts : (xs xs' ys ys' : List ℕ) → length xs ≡ length ys → xs ++ xs' ≡ ys ++ ys' → (xs ≡ ys) × (xs' ≡ ys')
append-parts xs xs' ys ys' long same = (
  sym (take_at xs xs' (length xs) refl) ∙ ap (λ (l : List ℕ). take (length xs) l) same ∙ take_at ys ys' (length xs) (sym long),
  sym (drop_at xs xs' (length xs) refl) ∙ ap (λ (l : List ℕ). drop (length xs) l) same ∙ drop_at ys ys' (length xs) (sym long),
)

-- the blocks of the first row and those of the others
first-blocks : (place : ℕ) (row : Option PlacedFile) (rows : List (Option PlacedFile)) (bytes : List ℕ)
    → tables_blocks place (map row_slot (row ∷ rows)) bytes ≡ blocks_in (row ∷ rows) → (slot_table (row_slot row) (piece place 4096 bytes)
    ≡ row_blocks row) × (tables_blocks (place + 4096) (map row_slot rows) bytes ≡ blocks_in rows)
unfolding tables_blocks blocks_in
first-blocks place row rows bytes same =
    append-parts (slot_table (row_slot row) (piece place 4096 bytes)) (tables_blocks (place + 4096) (map row_slot rows) bytes) (row_blocks row)
    (blocks_in rows) (length-own row (piece place 4096 bytes)) same

slot-given : (tables place : ℕ) (row : Option PlacedFile) (marks : List Bool) (table : List ℕ) → Hold (slot_checks tables place (row_slot row) marks
    table) → AllGiven tables marks (slot_table (row_slot row) table)
unfolding slot_checks slot_table
slot-given tables place None marks table h = tt
slot-given tables place (Some file) marks table h = table-given (length file.blocks) tables place marks table h

slot-behind : (tables place : ℕ) (row : Option PlacedFile) (marks other : List Bool) (table : List ℕ) → AllGiven tables other
    (slot_table (row_slot row) table) → Hold (slot_checks tables place (row_slot row) marks table) → Hold (slot_checks tables place (row_slot row) other table)
unfolding slot_checks slot_table
slot-behind tables place None marks other table given h = tt
slot-behind tables place (Some file) marks other table given h = table-behind (length file.blocks) tables place marks other table given h

slot-marks-are : (row : Option PlacedFile) (marks : List Bool) (table : List ℕ) → slot_marks (row_slot row) marks table ≡ marks_with marks
    (slot_table (row_slot row) table)
unfolding slot_marks slot_table marks_with
slot-marks-are None marks table = refl
slot-marks-are (Some file) marks table = marks-are (length file.blocks) marks table

with-append : (marks : List Bool) (xs ys : List ℕ) → marks_with (marks_with marks xs) ys ≡ marks_with marks (xs ++ ys)
unfolding marks_with
with-append marks [] ys = refl
with-append marks (x ∷ xs) ys = with-append (slice_set marks x true) xs ys

no-more : (marks : List Bool) → marks ≡ marks_with marks []
unfolding marks_with
no-more marks = refl

pub tables-marks-are : (place : ℕ) (rows : List (Option PlacedFile)) (marks : List Bool) (bytes : List ℕ) → tables_marks place (map row_slot rows)
    marks bytes ≡ marks_with marks (tables_blocks place (map row_slot rows) bytes)
unfolding tables_marks tables_blocks
tables-marks-are place [] marks bytes = no-more marks
tables-marks-are place (row ∷ rows) marks bytes =
    let table = piece place 4096 bytes in
    let own = slot_table (row_slot row) table in
    let behind = tables_blocks (place + 4096) (map row_slot rows) bytes in
    ap (λ (m : List Bool). tables_marks (place + 4096) (map row_slot rows) m bytes) (slot-marks-are row marks table)
    ∙ tables-marks-are (place + 4096) rows (marks_with marks own) bytes
    ∙ with-append marks own behind

pub tables-given : (tables place : ℕ) (rows : List (Option PlacedFile)) (marks : List Bool) (bytes : List ℕ)
    → Hold (tables_checks tables place (map row_slot rows) marks bytes) → AllGiven tables marks (tables_blocks place (map row_slot rows) bytes)
unfolding tables_checks tables_blocks
tables-given tables place [] marks bytes h = tt
tables-given tables place (row ∷ rows) marks bytes h =
    let table = piece place 4096 bytes in
    let own = slot_table (row_slot row) table in
    let front = slot_checks tables place (row_slot row) marks table in
    let behind = tables_checks tables (place + 4096) (map row_slot rows) (slot_marks (row_slot row) marks table) bytes in
    let Marks : List Bool → Type 0 = λ m. AllGiven tables m (tables_blocks (place + 4096) (map row_slot rows) bytes) in
    given-append tables marks own (tables_blocks (place + 4096) (map row_slot rows) bytes) (slot-given tables place row marks table
    (hold-front front behind h.1))
    (subst Marks (slot-marks-are row marks table) (tables-given tables (place + 4096) rows (slot_marks (row_slot row) marks table) bytes
    (hold-behind front behind h.1)))

-- what is known of the tables of rows
pub record AreTablesAllotted (tables place : ℕ) (rows : List (Option PlacedFile)) (marks : List Bool) (bytes : List ℕ) : Type 0 where
  pub holds : Hold (tables_checks tables place (map row_slot rows) marks bytes)
  pub blocks : tables_blocks place (map row_slot rows) bytes ≡ blocks_in rows

-- a row in front of others
row-before : (tables place : ℕ) (row : Option PlacedFile) (rows : List (Option PlacedFile)) (marks : List Bool) (bytes table : List ℕ)
    → piece place 4096 bytes ≡ table → nat_le (place + 4096) (length bytes) ≡ true → Hold (slot_checks tables place (row_slot row) marks table)
    → slot_table (row_slot row) table ≡ row_blocks row → AreTablesAllotted tables (place + 4096) rows (marks_with marks (row_blocks row)) bytes
    → AreTablesAllotted tables place (row ∷ rows) marks bytes
unfolding tables_checks tables_blocks blocks_in
row-before tables place row rows marks bytes table is whole own blocks more =
    let P : List ℕ → Type 0 = λ t. Hold (slot_checks tables place (row_slot row) marks t ++ tables_checks tables (place + 4096) (map row_slot rows)
    (slot_marks (row_slot row) marks t) bytes) in
    let Q : List Bool → Type 0 = λ m. Hold (tables_checks tables (place + 4096) (map row_slot rows) m bytes) in
    let after = slot-marks-are row marks table ∙ ap (λ (l : List ℕ). marks_with marks l) blocks in
    record {
      holds = (
        whole,
        subst P (sym is) (hold-append (slot_checks tables place (row_slot row) marks table) (tables_checks tables (place + 4096) (map row_slot rows)
            (slot_marks (row_slot row) marks table) bytes) own (subst Q (sym after) more.holds)),
      );
      blocks = ap (λ (t : List ℕ). slot_table (row_slot row) t ++ tables_blocks (place + 4096) (map row_slot rows) bytes) is
          ∙ ap (λ (l : List ℕ). l ++ tables_blocks (place + 4096) (map row_slot rows) bytes) blocks
          ∙ ap (λ (l : List ℕ). row_blocks row ++ l) more.blocks;
    }

none-allotted : (tables place : ℕ) (marks : List Bool) (bytes : List ℕ) → AreTablesAllotted tables place [] marks bytes
unfolding tables_checks tables_blocks blocks_in
none-allotted tables place marks bytes = record { holds = tt; blocks = refl }

-- the parts of the tables of a row and of those behind it
record AreTablesParted (tables place : ℕ) (row : Option PlacedFile) (rows : List (Option PlacedFile)) (marks : List Bool) (bytes : List ℕ) : Type 0 where
  whole : nat_le (place + 4096) (length bytes) ≡ true
  own : Hold (slot_checks tables place (row_slot row) marks (piece place 4096 bytes))
  behind : AreTablesAllotted tables (place + 4096) rows (slot_marks (row_slot row) marks (piece place 4096 bytes)) bytes
  blocks : slot_table (row_slot row) (piece place 4096 bytes) ≡ row_blocks row

parted : (tables place : ℕ) (row : Option PlacedFile) (rows : List (Option PlacedFile)) (marks : List Bool) (bytes : List ℕ)
    → AreTablesAllotted tables place (row ∷ rows) marks bytes → AreTablesParted tables place row rows marks bytes
unfolding tables_checks
parted tables place row rows marks bytes all =
    let table = piece place 4096 bytes in
    let first = first-blocks place row rows bytes all.blocks in
    let front = slot_checks tables place (row_slot row) marks table in
    let behind = tables_checks tables (place + 4096) (map row_slot rows) (slot_marks (row_slot row) marks table) bytes in
    record {
      whole = all.holds.0;
      own = hold-front front behind all.holds.1;
      behind = record { holds = hold-behind front behind all.holds.1; blocks = first.1 };
      blocks = first.0;
    }

given-parts : (tables : ℕ) (marks : List Bool) (row : Option PlacedFile) (rows : List (Option PlacedFile)) → AllGiven tables marks
    (blocks_in (row ∷ rows)) → AllGiven tables marks (row_blocks row) × AllGiven tables (marks_with marks (row_blocks row)) (blocks_in rows)
unfolding blocks_in
given-parts tables marks row rows given = (
  given-front tables marks (row_blocks row) (blocks_in rows) given,
  given-behind tables marks
      (row_blocks row) (blocks_in rows) given,
)

-- the same tables, behind other marks
same-before : (tables place : ℕ) (row : Option PlacedFile) (rows : List (Option PlacedFile)) (marks other : List Bool) (old new : List ℕ) → length old
    ≤ length new → piece place 4096 new ≡ piece place 4096 old → nat_le (place + 4096) (length old) ≡ true
    → Hold (slot_checks tables place (row_slot row) marks (piece place 4096 old)) → slot_table (row_slot row) (piece place 4096 old) ≡ row_blocks row
    → AllGiven tables other (row_blocks row) → AreTablesAllotted tables (place + 4096) rows (marks_with other (row_blocks row)) new
    → AreTablesAllotted tables place (row ∷ rows) other new
same-before tables place row rows marks other old new longer same whole own blocks given more =
    let Given : List ℕ → Type 0 = λ l. AllGiven tables other l in
    row-before tables place row rows other new (piece place 4096 old) same (le-longer (place + 4096) (length old) (length new) longer whole)
    (slot-behind tables place row marks other (piece place 4096 old) (subst Given (sym blocks) given) own) blocks more

pub tables-behind : (tables place : ℕ) (rows : List (Option PlacedFile)) (marks other : List Bool) (old new : List ℕ) → length old ≤ length new
    → SameFrom place (length rows) old new → AllGiven tables other (blocks_in rows) → AreTablesAllotted tables place rows marks old
    → AreTablesAllotted tables place rows other new
tables-behind tables place [] marks other old new longer same given all = none-allotted tables place other new
tables-behind tables place (row ∷ rows) marks other old new longer same given all =
    let p = parted tables place row rows marks old all in
    let g = given-parts tables other row rows given in
    same-before tables place row rows marks other old new longer (same-first place (length rows) old new same) p.whole p.own p.blocks g.0
    (tables-behind tables (place + 4096) rows (slot_marks (row_slot row) marks (piece place 4096 old)) (marks_with other (row_blocks row)) old new
    longer (same-rest place (length rows) old new same) g.1 p.behind)

-- the table of a row, of which any is right where the row is unused
abbrev pub IsTableOf : Option PlacedFile → List ℕ → Type 0
IsTableOf None table = Unit {0}
IsTableOf (Some file) table = table ≡ table_of_blocks file.blocks

slot-written : (tables place : ℕ) (row : Option PlacedFile) (marks : List Bool) (table : List ℕ) → IsTableOf row table → AllGiven tables marks
    (row_blocks row) → Hold (slot_checks tables place (row_slot row) marks table) × (slot_table (row_slot row) table ≡ row_blocks row)
unfolding slot_checks slot_table
slot-written tables place None marks table is given = (tt, refl)
slot-written tables place (Some file) marks table is given =
    let w = table-written file.blocks tables place marks given in
    let Holds : List ℕ → Type 0 = λ t. Hold (table_checks (length file.blocks) tables place marks t) in
    (subst Holds (sym is) w.holds, ap (λ (t : List ℕ). table_of (length file.blocks) t) is ∙ w.blocks_are)

-- the table of one row becomes right for another that stands in its place, behind whatever marks leave its blocks free
abbrev pub TableBecomes : (tables place : ℕ) (one two : Option PlacedFile) (old new : List ℕ) → Type 0
TableBecomes tables place one two old new =
    (marks other : List Bool) → AllGiven tables other (row_blocks two) → Hold (slot_checks tables place (row_slot one) marks (piece place 4096 old))
    → slot_table (row_slot one) (piece place 4096 old) ≡ row_blocks one → Hold (slot_checks tables place (row_slot two) other
    (piece place 4096 new)) × (slot_table (row_slot two) (piece place 4096 new) ≡ row_blocks two)

-- as it is written
pub becomes-written : (tables place : ℕ) (one two : Option PlacedFile) (old new : List ℕ) → IsTableOf two (piece place 4096 new)
    → TableBecomes tables place one two old new
becomes-written tables place one two old new is marks other given h same = slot-written tables place two other (piece place 4096 new) is given

-- as it was, for a file with the same blocks
pub becomes-same : (tables place : ℕ) (one two : PlacedFile) (old new : List ℕ) → two.blocks ≡ one.blocks → piece place 4096 new ≡ piece place 4096
    old → TableBecomes tables place (Some one) (Some two) old new
unfolding slot_checks slot_table
becomes-same tables place one two old new blocks is marks other given h same =
    let table = piece place 4096 old in
    let Given : List ℕ → Type 0 = λ l. AllGiven tables other l in
    let Holds : List ℕ → List ℕ → Type 0 = λ b t. Hold (table_checks (length b) tables place other t) in
    let count = length one.blocks in
    let own = table-behind count tables place marks other table (subst Given (sym same) (subst Given blocks given)) h in (
      subst (λ (t : List ℕ). Holds two.blocks t) (sym is) (subst (λ (b : List ℕ). Holds b table) (sym blocks) own),
      ap (λ (b : List ℕ). table_of (length b) (piece place 4096 new)) blocks ∙ ap (λ (t : List ℕ). table_of count t) is ∙ same ∙ sym blocks,
    )

-- the tables before a row and behind it are the same, and that of the row becomes right
pub record AreOthersSame (tables place before behind : ℕ) (one two : Option PlacedFile) (old new : List ℕ) : Type 0 where
  pub no_shorter : length old ≤ length new
  pub front : SameFrom place before old new
  pub own : TableBecomes tables (place + 4096 * before) one two old new
  pub rest : SameFrom (place + 4096 * before + 4096) behind old new

pub tables-over : (front rest : List (Option PlacedFile)) (one two : Option PlacedFile) (tables place : ℕ) (marks other : List Bool)
    (old new : List ℕ) → AreOthersSame tables place (length front) (length rest) one two old new → AllGiven tables other
    (blocks_in (front ++ two ∷ rest)) → AreTablesAllotted tables place (front ++ one ∷ rest) marks old → AreTablesAllotted tables place (front ++ two
    ∷ rest) other new
tables-over [] rest one two tables place marks other old new same given all =
    let p = parted tables place one rest marks old all in
    let g = given-parts tables other two rest given in
    let e : place + 4096 * 0 ≡ place = omega arith in
    let Own : ℕ → Type 0 = λ p. TableBecomes tables p one two old new in
    let From : ℕ → Type 0 = λ p. SameFrom (p + 4096) (length rest) old new in
    let own = (subst Own e same.own) marks other g.0 p.own p.blocks in
    row-before tables place two rest other new (piece place 4096 new) refl (le-longer (place + 4096) (length old) (length new) same.no_shorter
    p.whole) own.0 own.1
    (tables-behind tables (place + 4096) rest (slot_marks (row_slot one) marks (piece place 4096 old)) (marks_with other (row_blocks two)) old new
    same.no_shorter (subst From e same.rest) g.1 p.behind)
tables-over (row ∷ front) rest one two tables place marks other old new same given all =
    let p = parted tables place row (front ++ one ∷ rest) marks old all in
    let g = given-parts tables other row (front ++ two ∷ rest) given in
    let e : place + 4096 * length (row ∷ front) ≡ place + 4096 + 4096 * length front = omega arith in
    let Own : ℕ → Type 0 = λ p. TableBecomes tables p one two old new in
    let From : ℕ → Type 0 = λ p. SameFrom (p + 4096) (length rest) old new in
    same-before tables place row (front ++ two ∷ rest) marks other old new same.no_shorter (same-first place (length front) old new same.front)
    p.whole p.own p.blocks g.0
    (tables-over front rest one two tables (place + 4096) (slot_marks (row_slot row) marks (piece place 4096 old)) (marks_with other (row_blocks row)) old new
    (record {
      no_shorter = same.no_shorter;
      front = same-rest place (length front) old new same.front;
      own = subst Own e same.own;
      rest =
          subst From e same.rest;
    }) g.1 p.behind)
