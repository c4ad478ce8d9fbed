use Rattle.std.proofs.Common.{◌+◌, ◌∙◌, sym, ap, arith, length, inl, inr}
use Rattle.std.proofs.lemmas.Bool.{iff_false, eqb-true, eqb-false}
use Rattle.std.proofs.lemmas.List.{nil_from_length}
use Rattle.nq_script.proofs.EventLines.{so-far-size, wrong-no-line, wrong-no-read, ended, wrong-end, so-far-more}
use Rattle.nq_script.proofs.FileLines.{after-shorter}
use Rattle.nq_script.proofs.scripts.read_lines.Goals as goal

pub overflow_cast-number : goal.overflow_cast-number
overflow_cast-number c =
    let size = so-far-size c.args.head.now c.lines.lines c.args.text.now c.lines.rest.now c.lines.invariant in
    let many = c.len.ensures in let small = c.requires in omega arith

pub overflow_add-number : goal.overflow_add-number
overflow_add-number c =
    let size = so-far-size c.args.head.now c.lines.lines c.args.text.now c.lines.rest.now c.lines.invariant in
    let many = c.len.ensures in let small = c.requires in omega arith

pub returns-in_default : goal.returns-in_default
returns-in_default c =
    inl (wrong-no-line c.args.head.now c.args.first c.lines.lines c.args.text.now c.lines.rest.now (c.args.first + c.len.result) c.lines.invariant
    (ap (λ n. c.args.first + n) c.len.ensures) (sym c.in_default.ensures))

pub returns-in_default-read_line : goal.returns-in_default-read_line
returns-in_default-read_line c =
    inl (wrong-no-read c.args.head.now c.args.first c.lines.lines c.args.text.now c.lines.rest.now c.in-Some.line.now c.in-Some.after.now
    (c.args.first + c.len.result) c.lines.invariant (ap (λ n. c.args.first + n) c.len.ensures) (sym c.in-Some.ensures)
    (sym c.in_default-read_line.ensures))

pub overflow_add-result : goal.overflow_add-result
overflow_add-result c =
    let size = so-far-size c.args.head.now c.lines.lines c.args.text.now c.lines.rest.now c.lines.invariant in
    let shorter = after-shorter c.lines.rest.now c.in-Some.line.now c.in-Some.after.now (sym c.in-Some.ensures) in
    let many = c.len.ensures in let small = c.requires in omega arith

pub returns-then-is_empty : goal.returns-then-is_empty
returns-then-is_empty c =
    ended c.args.head.now c.lines.lines c.args.text.now c.lines.rest.now c.in-Some.line.now c.in-Some.after.now c.in-Some-read_line.read c.lines.invariant
    (sym c.in-Some.ensures) (sym c.in-Some-read_line.ensures) (c.is_end.ensures.0 c.if-is_end.true)
    (nil_from_length c.in-Some.after.now (eqb-true (length c.in-Some.after.now) 0 (sym c.is_empty.ensures ∙ c.if-is_empty.true)))

pub returns-else-is_empty : goal.returns-else-is_empty
returns-else-is_empty c =
    inr (wrong-end c.args.head.now c.args.first c.lines.lines c.args.text.now c.lines.rest.now c.in-Some.line.now c.in-Some.after.now c.in-Some-read_line.read
    (c.args.first + c.len.result) c.lines.invariant (ap (λ n. c.args.first + n) c.len.ensures) (sym c.in-Some.ensures)
    (sym c.in-Some-read_line.ensures) (c.is_end.ensures.0 c.if-is_end.true)
    (λ none. eqb-false (length c.in-Some.after.now) 0 (sym c.is_empty.ensures ∙ c.if-is_empty.false) (ap length none)))

pub lines-smaller : goal.lines-smaller
lines-smaller c = after-shorter c.lines.rest.now c.in-Some.line.now c.in-Some.after.now (sym c.in-Some.ensures)

pub lines-preserved : goal.lines-preserved
lines-preserved c =
    so-far-more c.args.head.now c.lines.lines c.push.new.self c.args.text.now c.lines.rest.now c.in-Some.line.now c.in-Some.after.now c.in-Some-read_line.read
    c.lines.invariant (sym c.in-Some.ensures) (sym c.in-Some-read_line.ensures) (iff_false c.is_end.ensures c.if-is_end.false) c.in_ok-push.ensures
