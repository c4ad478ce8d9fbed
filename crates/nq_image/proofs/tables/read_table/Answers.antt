use Rattle.std.proofs.Common.{◌≡◌, Bool, true, false, arith, ◌-◌, ℕ, sym, subst}
use Rattle.std.proofs.Math.ListN.{length-set}
use Rattle.nq_image.specs.Check.{tested}
use Rattle.nq_image.specs.Layout.{word_in, are_zeros}
use Rattle.nq_image.specs.Tables.{is_entry, table_checks, table_of, marks_behind}
use Rattle.nq_image.proofs.Walks.{entry-passes, entry-fails, marks-pass, no-entry-left, no-mark-left, rest-is-wrong}
use Rattle.nq_image.proofs.tables.read_table.Goals as goal

pub returns-in_default-clause-told : goal.returns-in_default-clause-told
returns-in_default-clause-told c =
    let whole = tested (table_checks c.args.count c.args.tables c.args.place c.args.marks.now c.args.table.now) (table_of c.args.count c.args.table.now) in
    let P : ℕ → Type 0 = λ entry. is_entry c.args.tables c.loop.marks entry ≡ false in
    let wrong = subst P c.word_in.ensures (sym c.in_default.ensures.known) in
    sym (entry-fails c.args.count c.loop.counter c.args.tables c.loop.at c.loop.marks c.loop.rest.now c.loop.given.items whole (omega arith) wrong
    c.loop.invariant.same)

pub loop-preserved : goal.loop-preserved
loop-preserved c =
    let whole = tested (table_checks c.args.count c.args.tables c.args.place c.args.marks.now c.args.table.now) (table_of c.args.count c.args.table.now) in
    let P : ℕ → Type 0 = λ entry. is_entry c.args.tables c.loop.marks entry ≡ true in
    let right = subst P c.word_in.ensures (sym c.in-Some.ensures.known) in
    let next = c.in-Some.ensures.block.0 in
    let own : c.in-Some.block ≡ word_in 0 c.loop.rest.now - 1 = omega arith in
    record {
      size = omega arith;
      at = omega arith;
      marks = omega (arith, length-set {A = Bool});
      same = rw (c.in_ok-push.ensures.items, c.split_at.ensures.back, own) (entry-passes c.args.count c.loop.counter c.args.tables c.loop.at
          c.loop.marks c.loop.rest.now c.loop.given.items whole (omega arith) right c.loop.invariant.same);
      behind = rw (c.split_at.ensures.back, own) (marks-pass c.args.count c.loop.counter c.loop.marks c.loop.rest.now (marks_behind c.args.count
          c.args.marks.now c.args.table.now) (omega arith) c.loop.invariant.behind);
    }

pub returns-clause-told : goal.returns-clause-told
returns-clause-told c =
    let whole = tested (table_checks c.args.count c.args.tables c.args.place c.args.marks.now c.args.table.now) (table_of c.args.count c.args.table.now) in
    let zeros : are_zeros c.loop.rest.now ≡ true = cc in
    no-entry-left c.args.count c.loop.counter c.args.tables c.loop.at c.loop.marks c.loop.rest.now c.loop.given.items whole (omega arith) zeros
    c.loop.invariant.same

pub returns-clause-marks : goal.returns-clause-marks
returns-clause-marks c =
    no-mark-left c.args.count c.loop.counter c.loop.marks c.loop.rest.now (marks_behind c.args.count c.args.marks.now c.args.table.now) (omega arith)
    c.loop.invariant.behind

pub returns-then-not-are_zeros-clause-told : goal.returns-then-not-are_zeros-clause-told
returns-then-not-are_zeros-clause-told c =
    let whole = tested (table_checks c.args.count c.args.tables c.args.place c.args.marks.now c.args.table.now) (table_of c.args.count c.args.table.now) in
    let wrong : are_zeros c.loop.rest.now ≡ false = cc in
    rest-is-wrong c.args.count c.loop.counter c.args.tables c.loop.at c.loop.marks c.loop.rest.now c.loop.given.items whole (omega arith) wrong
    c.loop.invariant.same
