-- The tables that a migration writes are read back.
use Rattle.std.proofs.Common.{◌≡◌, ◌≤◌, ◌+◌, ◌-◌, ◌*◌, ℕ, zero, suc, Bool, true, List, [], ◌∷◌, ◌++◌, Option, Some, None, length, refl, sym, ap}
use Rattle.std.proofs.Common.{subst, ◌∙◌, arith}
use Rattle.std.specs.List.{sum_by}
use Rattle.std.specs.Prelude.{nat_le}
use Rattle.std.specs.Int.{w32, to_be_bytes}
use Rattle.std.proofs.lemmas.List.Sums.{sum_by-cons}
use Rattle.nq_image.specs.Check.{check}
use Rattle.nq_image.specs.Kept.{numbers_from}
use Rattle.nq_image.specs.Layout.{piece}
use Rattle.nq_image.specs.Rows.{blocks_of}
use Rattle.nq_image.specs.Tables.{marks_behind, slot_checks, slot_marks, slot_table, table_checks, table_of, tables_blocks, tables_checks, tables_marks}
use Rattle.nq_image.specs.Writing.{entries_bytes, entries_of, table_bytes, table_of_blocks, zeros_of}
use Rattle.nq_image.specs.declared.Slot.{Slot}
use Rattle.nq_image.proofs.Giving.{length-numbers}
use Rattle.nq_image.proofs.ReadBack.{Hold, ge-true, hold-append}
use Rattle.nq_image.proofs.Tabling.{AreFree, IsTableBack, numbers-append, table-back}
use Rattle.nq_store.specs.Migrated.{HasTables}

entries-same : (count block : ℕ) → entries_of (numbers_from block count) ≡ entries_bytes count block
unfolding entries_of entries_bytes numbers_from
entries-same zero block = refl
entries-same (suc count) block = ap (λ (l : List ℕ). to_be_bytes w32 (block + 1) ++ l) (entries-same count (block + 1))

-- the table of numbers one behind another
pub table-same : (count block : ℕ) → table_of_blocks (numbers_from block count) ≡ table_bytes count block
unfolding table_of_blocks table_bytes
table-same count block =
    ap (λ (l : List ℕ). l ++ zeros_of (4096 - 4 * length (numbers_from block count))) (entries-same count block)
    ∙ ap (λ (n : ℕ). entries_bytes count block ++ zeros_of (4096 - 4 * n)) (length-numbers block count)

-- what is known of the tables of these rows
pub record AreTablesRight (tables place block : ℕ) (slots : List (Option Slot)) (marks : List Bool) (bytes : List ℕ) : Type 0 where
  pub holds : Hold (tables_checks tables place slots marks bytes)
  pub blocks : tables_blocks place slots bytes ≡ numbers_from block (sum_by blocks_of slots)
  pub free : AreFree (block + sum_by blocks_of slots) (tables_marks place slots marks bytes)

none-more : (n : ℕ) → n + 0 ≡ n
none-more n = omega arith

module _ (tables : ℕ) (near : tables ≤ 16384) where
  no-rows : (place block : ℕ) (marks : List Bool) (bytes : List ℕ) → AreFree block marks → AreTablesRight tables place block [] marks bytes
  unfolding tables_checks tables_blocks tables_marks numbers_from
  no-rows place block marks bytes free = record { holds = tt; blocks = refl; free = λ k le. free k (omega arith) }

  unused-row : (place block : ℕ) (slots : List (Option Slot)) (marks : List Bool) (bytes : List ℕ) → nat_le (place + 4096) (length bytes) ≡ true
      → AreTablesRight tables (place + 4096) (block + 0) slots marks bytes → AreTablesRight tables place block (None ∷ slots) marks bytes
  unfolding tables_checks tables_blocks tables_marks slot_checks slot_table slot_marks
  unused-row place block slots marks bytes whole more =
      let sums = sum_by-cons blocks_of None slots in
      let same : sum_by blocks_of slots ≡ sum_by blocks_of (None ∷ slots) = omega (arith, sums) in
      let next : block + 0 + sum_by blocks_of slots ≡ block + sum_by blocks_of (None ∷ slots) = omega (arith, sums) in
      let F : ℕ → Type 0 = λ k. AreFree k (tables_marks (place + 4096) slots marks bytes) in
      record {
        holds = (whole, more.holds);
        blocks = more.blocks ∙ ap (λ (b : ℕ). numbers_from b (sum_by blocks_of slots)) (none-more block) ∙ ap (λ (n : ℕ). numbers_from block n) same;
        free = subst F next more.free;
      }

  used-row : (place block : ℕ) (slot : Slot) (slots : List (Option Slot)) (marks : List Bool) (table bytes : List ℕ) → nat_le (place + 4096)
      (length bytes) ≡ true → piece place 4096 bytes ≡ table → IsTableBack tables slot.blocks place block marks table → AreTablesRight tables
      (place + 4096) (block + slot.blocks) slots (marks_behind slot.blocks marks table) bytes → AreTablesRight tables place block (Some slot ∷ slots)
      marks bytes
  unfolding tables_checks tables_blocks tables_marks slot_checks slot_table slot_marks
  used-row place block slot slots marks table bytes whole is own more =
      let n = slot.blocks in
      let sums = sum_by-cons blocks_of (Some slot) slots in
      let Checks : List ℕ → Type 0 = λ t. Hold (check place (nat_le (place + 4096) (length bytes)) ∷ (table_checks n tables place marks t
      ++ tables_checks tables (place + 4096) slots (marks_behind n marks t) bytes)) in
      let Free : List ℕ → Type 0 = λ t. AreFree (block + sum_by blocks_of (Some slot ∷ slots)) (tables_marks (place + 4096) slots
      (marks_behind n marks t) bytes) in
      let F : ℕ → Type 0 = λ k. AreFree k (tables_marks (place + 4096) slots (marks_behind n marks table) bytes) in
      let next : block + n + sum_by blocks_of slots ≡ block + sum_by blocks_of (Some slot ∷ slots) = omega (arith, sums) in
      record {
        holds = subst Checks (sym is) (
          whole,
          hold-append (table_checks n tables place marks table) (tables_checks tables (place + 4096) slots
              (marks_behind n marks table) bytes) own.holds more.holds,
        );
        blocks = ap (λ (t : List ℕ). table_of n t ++ tables_blocks (place + 4096) slots bytes) is
            ∙ ap (λ (l : List ℕ). l ++ tables_blocks (place + 4096) slots bytes) own.blocks
            ∙ ap (λ (l : List ℕ). numbers_from block n ++ l) more.blocks
            ∙ numbers-append block n (sum_by blocks_of slots)
            ∙ ap (λ (k : ℕ). numbers_from block k) (sym sums);
        free = subst Free (sym is) (subst F next more.free);
      }

  pub tables-right : (place block : ℕ) (slots : List (Option Slot)) (marks : List Bool) (bytes : List ℕ) → HasTables place block slots bytes
      → place + 4096 * length slots ≤ length bytes → block + sum_by blocks_of slots ≤ tables → AreFree block marks → AreTablesRight tables place block
      slots marks bytes
  tables-right place block [] marks bytes has long few free = no-rows place block marks bytes free
  tables-right place block (None ∷ slots) marks bytes has long few free =
      let sums = sum_by-cons blocks_of None slots in
      let F : ℕ → Type 0 = λ k. AreFree k marks in
      unused-row place block slots marks bytes (ge-true (length bytes) (length bytes) (place + 4096) refl (omega arith))
      (tables-right (place + 4096) (block + 0) slots marks bytes has.1 (omega arith) (omega (arith, sums)) (subst F (sym (none-more block)) free))
  tables-right place block (Some slot ∷ slots) marks bytes has long few free =
      let n = slot.blocks in
      let sums = sum_by-cons blocks_of (Some slot) slots in
      let back = table-back tables near n place block marks (omega (arith, sums)) free in
      used-row place block slot slots marks (table_bytes n block) bytes (ge-true (length bytes) (length bytes) (place + 4096) refl (omega arith))
      (has.0 ∙ table-same n block) back
      (tables-right (place + 4096) (block + n) slots (marks_behind n marks (table_bytes n block)) bytes has.1 (omega arith) (omega (arith, sums)) back.free)
