use Rattle.std.proofs.Common.{rules, ◌≡◌, ◌≤◌, ◌+◌, ℕ, Bool, List, Option, Result, Ok, Err, Vec, Global, length, sym, ap, subst, ◌∙◌, arith}
use Rattle.nq_base.specs.declared.Heads.{Heads}
use Rattle.nq_image.specs.Check.{tested}
use Rattle.nq_image.specs.Image.{ids_in, image_two, no_marks}
use Rattle.nq_image.specs.Layout.{block_place}
use Rattle.nq_image.specs.Reading.{Reads}
use Rattle.nq_image.specs.Seen.{seen_rows}
use Rattle.nq_image.specs.Tables.{held, tables_blocks, tables_checks, tables_marks}
use Rattle.nq_image.specs.declared.fault.ImageFault.TheVariants.{BadField}
use Rattle.nq_image.specs.declared.rows.Slot.{Slot}
use Rattle.nq_plan.proofs.Founding.{all-read, blocks-wrong, held-wrong, holds-on, holds-wrong, ids-wrong, rows-wrong, written-back}
use Rattle.nq_plan.specs.Held.{HeldTables}
use Rattle.nq_plan.specs.Reading.{rows_of}
use Rattle.nq_plan.proofs.tables.Tables.read.Goals as goal

pub returns-in_err-rows : goal.returns-in_err-rows
returns-in_err-rows c = λ bytes parts.
    let is : c.from_residual.result ≡ Err c.in_err-rows.field-0.0 = search rules in
    holds-on seen_rows bytes c.from_residual.result c.in_err-rows.field-0.0 _ (image_two (no_marks 16641) bytes) is c.in_err-rows.ensures.told
    (λ p wrong. rows-wrong bytes c.args.head.now c.args.window.now c.args.front.now c.args.size parts p wrong)

pub returns-in_err-blocks : goal.returns-in_err-blocks
returns-in_err-blocks c = λ bytes parts.
    let front = c.args.front.now in
    let start = block_place front.tables in
    let rows = seen_rows c.in_ok-rows.rows in
    let marks_are = c.deref_mut.ensures.value ∙ c.in_ok-marks.ensures.marks in
    let told : List (Option Slot) → List Bool → Result (List ℕ) ℕ = λ s m. tested (tables_checks front.tables start s m bytes) (tables_blocks start s bytes) in
    let R : List (Option Slot) → List Bool → Type 0 = λ s m. Reads (λ (blocks : Vec ℕ Global). blocks.items) (Err c.in_err-blocks.field-0.0) (told s m) in
    let reads = subst (λ (m : List Bool). R rows.slots m) marks_are (subst (λ (s : List (Option Slot)). R s c.deref_mut.result.now)
    c.deref.ensures.value (c.in_err-blocks.ensures.told bytes parts.window_is)) in
    let is : c.from_residual-in_err-blocks.result ≡ Err c.in_err-blocks.field-0.0 = search rules in
    holds-on (λ (blocks : Vec ℕ Global). blocks.items) bytes c.from_residual-in_err-blocks.result c.in_err-blocks.field-0.0
    (told rows.slots (no_marks 16641)) (image_two (no_marks 16641) bytes) is reads
    (λ p wrong. blocks-wrong bytes c.args.head.now c.args.window.now front c.args.size parts rows c.in_ok-rows.ensures.told p wrong)

pub returns-in_err-ids : goal.returns-in_err-ids
returns-in_err-ids c = λ bytes parts.
    let front = c.args.front.now in
    let start = block_place front.tables in
    let rows = seen_rows c.in_ok-rows.rows in
    let blocks = c.in_ok-blocks.blocks.items in
    let marks_are = c.deref_mut.ensures.value ∙ c.in_ok-marks.ensures.marks in
    let T : List (Option Slot) → List Bool → Type 0 = λ s m. tested (tables_checks front.tables start s m bytes) (tables_blocks start s bytes) ≡ Ok blocks in
    let blocks_are = subst (λ (m : List Bool). T rows.slots m) marks_are (subst (λ (s : List (Option Slot)). T s c.deref_mut.result.now)
    c.deref.ensures.value (c.in_ok-blocks.ensures.told bytes parts.window_is)) in
    let told : List (Option Slot) → Result (List ℕ) ℕ = λ s. ids_in (start + 1048576) front.next s bytes in
    let R : List (Option Slot) → Type 0 = λ s. Reads (λ (ids : Vec ℕ Global). ids.items) (Err c.in_err-ids.field-0.0) (told s) in
    let reads = subst R c.deref-2.ensures.value (c.in_err-ids.ensures.told bytes parts.window_is) in
    let is : c.from_residual-in_err-ids.result ≡ Err c.in_err-ids.field-0.0 = search rules in
    holds-on (λ (ids : Vec ℕ Global). ids.items) bytes c.from_residual-in_err-ids.result c.in_err-ids.field-0.0 (told rows.slots)
    (image_two (no_marks 16641) bytes) is reads
    (λ p wrong. ids-wrong bytes c.args.head.now c.args.window.now front c.args.size parts rows c.in_ok-rows.ensures.told blocks blocks_are p wrong)

pub returns-in_err-check_held : goal.returns-in_err-check_held
returns-in_err-check_held c = λ bytes parts.
    let front = c.args.front.now in
    let start = block_place front.tables in
    let rows = seen_rows c.in_ok-rows.rows in
    let blocks = c.in_ok-blocks.blocks.items in
    let ids = c.in_ok-ids.ids.items in
    let marks = c.read_all_blocks.new.marks in
    let marks_were = c.deref_mut.ensures.value ∙ c.in_ok-marks.ensures.marks in
    let T : List (Option Slot) → List Bool → Type 0 = λ s m. tested (tables_checks front.tables start s m bytes) (tables_blocks start s bytes) ≡ Ok blocks in
    let blocks_are = subst (λ (m : List Bool). T rows.slots m) marks_were (subst (λ (s : List (Option Slot)). T s c.deref_mut.result.now)
    c.deref.ensures.value (c.in_ok-blocks.ensures.told bytes parts.window_is)) in
    let M : List (Option Slot) → List Bool → Type 0 = λ s m. marks ≡ tables_marks start s m bytes in
    let marks_are = subst (λ (m : List Bool). M rows.slots m) marks_were (subst (λ (s : List (Option Slot)). M s c.deref_mut.result.now)
    c.deref.ensures.value (c.in_ok-blocks.ensures.marks bytes parts.window_is)) in
    let I : List (Option Slot) → Type 0 = λ s. ids_in (start + 1048576) front.next s bytes ≡ Ok ids in
    let ids_are = subst I c.deref-2.ensures.value (c.in_ok-ids.ensures.told bytes parts.window_is) in
    let wrote : length c.read_all_blocks.new.marks ≡ length c.in_ok-marks.marks.items = c.read_all_blocks.auto.marks ∙ ap length c.deref_mut.ensures.value in
    let fits : length c.in_ok-marks.marks.items ≤ c.in_ok-marks.marks.len = let ok = c.in_ok-marks.marks.ok.0 in omega arith in
    let back = written-back c.in_ok-marks.marks.len c.read_all_blocks.new.marks c.in_ok-marks.marks.items wrote fits in
    let is : c.from_residual-in_err-check_held.result ≡ Err (BadField c.in_err-check_held.field-0.0) = search rules in
    holds-wrong bytes c.from_residual-in_err-check_held.result c.in_err-check_held.field-0.0 (image_two (no_marks 16641) bytes) is
    (held-wrong bytes c.args.head.now c.args.window.now front c.args.size parts rows c.in_ok-rows.ensures.told blocks blocks_are ids ids_are marks
    marks_are c.in_err-check_held.field-0.0
    (ap (held c.args.size) (sym (c.deref-3.ensures.value ∙ back)) ∙ sym c.in_err-check_held.ensures))

pub returns : goal.returns
returns c = λ bytes parts.
    let front = c.args.front.now in
    let start = block_place front.tables in
    let rows = seen_rows c.in_ok-rows.rows in
    let blocks = c.in_ok-blocks.blocks.items in
    let ids = c.in_ok-ids.ids.items in
    let marks = c.read_all_blocks.new.marks in
    let files = c.in_ok-files.files.items in
    let marks_were = c.deref_mut.ensures.value ∙ c.in_ok-marks.ensures.marks in
    let T : List (Option Slot) → List Bool → Type 0 = λ s m. tested (tables_checks front.tables start s m bytes) (tables_blocks start s bytes) ≡ Ok blocks in
    let blocks_are = subst (λ (m : List Bool). T rows.slots m) marks_were (subst (λ (s : List (Option Slot)). T s c.deref_mut.result.now)
    c.deref.ensures.value (c.in_ok-blocks.ensures.told bytes parts.window_is)) in
    let M : List (Option Slot) → List Bool → Type 0 = λ s m. marks ≡ tables_marks start s m bytes in
    let marks_are = subst (λ (m : List Bool). M rows.slots m) marks_were (subst (λ (s : List (Option Slot)). M s c.deref_mut.result.now)
    c.deref.ensures.value (c.in_ok-blocks.ensures.marks bytes parts.window_is)) in
    let I : List (Option Slot) → Type 0 = λ s. ids_in (start + 1048576) front.next s bytes ≡ Ok ids in
    let ids_are = subst I c.deref-2.ensures.value (c.in_ok-ids.ensures.told bytes parts.window_is) in
    let files_are = c.in_ok-files.ensures.told
    ∙ ap (λ (s : List (Option Slot)). rows_of 0 s c.deref-5.result.now c.deref-6.result.now) c.deref-4.ensures.value
    ∙ ap (λ (i : List ℕ). rows_of 0 rows.slots i c.deref-6.result.now) c.deref-5.ensures.value
    ∙ ap (λ (b : List ℕ). rows_of 0 rows.slots ids b) c.deref-6.ensures.value in
    let wrote : length c.read_all_blocks.new.marks ≡ length c.in_ok-marks.marks.items = c.read_all_blocks.auto.marks ∙ ap length c.deref_mut.ensures.value in
    let fits : length c.in_ok-marks.marks.items ≤ c.in_ok-marks.marks.len = let ok = c.in_ok-marks.marks.ok.0 in omega arith in
    let back = written-back c.in_ok-marks.marks.len c.read_all_blocks.new.marks c.in_ok-marks.marks.items wrote fits in
    let is_held = ap (held c.args.size) (sym (c.deref-3.ensures.value ∙ back)) ∙ sym c.in_ok-check_held.ensures in
    let all = all-read bytes c.args.head.now c.args.window.now front c.args.size parts rows c.in_ok-rows.ensures.told blocks blocks_are ids ids_are
    marks marks_are files is_held files_are in
    let With : Heads → List Bool → HeldTables = λ h m. record {
      standing = record {
        heads = h;
        tables = front.tables;
        hosts = rows.hosts;
        rows =
            files;
      };
      marks = m;
    } in
    (all.0, all.1, ap (λ (m : List Bool). With c.heads_of.result m) back ∙ ap (λ (h : Heads). With h marks) c.heads_of.ensures ∙ all.2)
