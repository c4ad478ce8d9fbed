use Rattle.std.proofs.Common.{◌≡◌, rules, Err, Ok, Result, Vec, Global, arith, ℕ, length, subst, List}
use Rattle.nq_image.specs.Check.{tested}
use Rattle.nq_image.specs.Layout.{piece}
use Rattle.nq_image.specs.Reading.{Reads}
use Rattle.nq_image.specs.declared.fault.ImageFault.{ImageFault}
use Rattle.nq_image.specs.Tables.{slot_checks, slot_table, slot_marks, tables_blocks, tables_checks, tables_marks}
use Rattle.nq_image.proofs.Walks.{slot-is-short, is-held, is-missing, table-passes, table-fails, table-is-missing, table-marks, no-table-left}
use Rattle.nq_image.proofs.Walks.{no-marks-left, reads-on}
use Rattle.nq_image.proofs.tables.read_tables.Goals as goal

pub read_slot-requires-clause-short : goal.read_slot-requires-clause-short
read_slot-requires-clause-short c = slot-is-short c.args.slots.now c.loop-slot.slot-index c.slot-item.result c.loop-slot-test.true c.slot-item.is
    c.requires.short

pub returns-then-bytes-start-clause-told : goal.returns-then-bytes-start-clause-told
returns-then-bytes-start-clause-told c =
    let whole = tested (tables_checks c.args.tables c.args.place c.args.slots.now c.args.marks.now c.args.bytes.now) (tables_blocks c.args.place
    c.args.slots.now c.args.bytes.now) in
    table-is-missing c.args.tables c.loop-slot.at c.loop-slot.slot-index c.args.slots.now c.slot-item.result c.loop-slot.marks c.args.bytes.now
    c.loop-slot.given.items whole c.loop-slot-test.true c.slot-item.is (is-missing c.loop-slot.at (length c.args.bytes.now) c.if-bytes-start.true)
    c.loop-slot.invariant.same

pub returns-in_err-own-clause-told : goal.returns-in_err-own-clause-told
returns-in_err-own-clause-told c =
    let whole = tested (tables_checks c.args.tables c.args.place c.args.slots.now c.args.marks.now c.args.bytes.now) (tables_blocks c.args.place
    c.args.slots.now c.args.bytes.now) in
    let slot = c.slot-item.result in
    let P : List ℕ → Type 0 = λ table. Reads (λ (blocks : Vec ℕ Global). blocks.items) c.read_slot.result
    (tested (slot_checks c.args.tables c.loop-slot.at slot c.loop-slot.marks table) (slot_table slot table)) in
    let own = subst P c.piece-table.ensures.bytes c.read_slot.ensures.told in
    let told = tested (slot_checks c.args.tables c.loop-slot.at slot c.loop-slot.marks (piece c.loop-slot.at 4096 c.args.bytes.now))
    (slot_table slot (piece c.loop-slot.at 4096 c.args.bytes.now)) in
    let Q : Result (Vec ℕ Global) ImageFault → Type 0 = λ answer. Reads (λ (blocks : Vec ℕ Global). blocks.items) answer told in
    let is : c.from_residual.result ≡ Err c.in_err-own.field-0.0 = search rules in
    reads-on (λ (blocks : Vec ℕ Global). blocks.items) (λ (blocks : Vec ℕ Global). blocks.items) c.from_residual.result c.in_err-own.field-0.0 told
    whole is (subst Q c.in_err-own.was own)
    (λ p wrong. table-fails c.args.tables c.loop-slot.at c.loop-slot.slot-index c.args.slots.now slot c.loop-slot.marks c.args.bytes.now
    c.loop-slot.given.items p whole c.loop-slot-test.true c.slot-item.is (is-held c.loop-slot.at (length c.args.bytes.now) c.if-bytes-start.false)
    wrong c.loop-slot.invariant.same)

pub loop-slot-preserved : goal.loop-slot-preserved
loop-slot-preserved c =
    let whole = tested (tables_checks c.args.tables c.args.place c.args.slots.now c.args.marks.now c.args.bytes.now) (tables_blocks c.args.place
    c.args.slots.now c.args.bytes.now) in
    let slot = c.slot-item.result in
    let P : List ℕ → Type 0 = λ table. tested (slot_checks c.args.tables c.loop-slot.at slot c.loop-slot.marks table) (slot_table slot table)
    ≡ Ok c.in_ok-own.own.items in
    let M : List ℕ → Type 0 = λ table. c.read_slot.new.marks ≡ slot_marks slot c.loop-slot.marks table in
    let right = subst P c.piece-table.ensures.bytes c.in_ok-own.ensures.told in
    let marks = subst M c.piece-table.ensures.bytes c.in_ok-own.ensures.marks in
    record {
      at = omega arith;
      marks = omega arith;
      same = rw (c.in_ok-extend_from_slice.ensures.items, c.deref.ensures.value, marks) (table-passes c.args.tables c.loop-slot.at
          c.loop-slot.slot-index c.args.slots.now slot c.loop-slot.marks c.args.bytes.now c.loop-slot.given.items c.in_ok-own.own.items whole
          c.loop-slot-test.true c.slot-item.is (is-held c.loop-slot.at (length c.args.bytes.now) c.if-bytes-start.false) right c.loop-slot.invariant.same);
      behind = rw marks (table-marks c.loop-slot.at c.loop-slot.slot-index c.args.slots.now slot c.loop-slot.marks c.args.bytes.now
          (tables_marks c.args.place c.args.slots.now c.args.marks.now c.args.bytes.now) c.loop-slot-test.true c.slot-item.is c.loop-slot.invariant.behind);
    }

pub returns-clause-told : goal.returns-clause-told
returns-clause-told c =
    let whole = tested (tables_checks c.args.tables c.args.place c.args.slots.now c.args.marks.now c.args.bytes.now) (tables_blocks c.args.place
    c.args.slots.now c.args.bytes.now) in
    no-table-left c.args.tables c.loop-slot.at c.loop-slot.slot-index c.args.slots.now c.loop-slot.marks c.args.bytes.now c.loop-slot.given.items
    whole c.loop-slot-test.false c.loop-slot.invariant.same

pub returns-clause-marks : goal.returns-clause-marks
returns-clause-marks c =
    no-marks-left c.loop-slot.at c.loop-slot.slot-index c.args.slots.now c.loop-slot.marks c.args.bytes.now (tables_marks c.args.place
    c.args.slots.now c.args.marks.now c.args.bytes.now) c.loop-slot-test.false c.loop-slot.invariant.behind
