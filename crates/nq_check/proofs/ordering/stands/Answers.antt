use Rattle.std.proofs.Common.{rules, ◌≡◌, ◌+◌, true, false, drop, reverse, sym, ◌∙◌, subst}
use Rattle.std.specs.Prelude.{IsTrue}
use Rattle.nq_base.specs.declared.Entry.{Entry}
use Rattle.nq_base.specs.declared.Entry.TheVariants.{R}
use Rattle.nq_model.specs.laws.JournalTest.{is_counted}
use Rattle.nq_rules.specs.InOrder.{StandsInOrder}
use Rattle.nq_rules.proofs.Lining.{else_stands, uncounted_stands}
use Rattle.nq_rules.proofs.NextLines.{answer_next, call_next, read_next, resize_next, write_next}
use Rattle.nq_check.proofs.ordering.stands.Goals as goal

pub returns-in-C : goal.returns-in-C
returns-in-C c =
    let s = c.in-C in
    call_next c.set_next.result (reverse c.args.whole.now) (drop (c.args.place + 1) c.args.whole.now) c.args.entry.now s.who s.q s.told
    c.is_busy_behind-is_busy.result c.line_at.result c.after_call-next.result c.args.lines.now.entries c.set_next.new.lines.entries s.is
    c.is_busy_behind-is_busy.ensures c.line_at.ensures c.after_call-next.ensures c.set_next.ensures

pub returns-in-W : goal.returns-in-W
returns-in-W c =
    let s = c.in-W in
    write_next c.set_next-in-W.result (reverse c.args.whole.now) (drop (c.args.place + 1) c.args.whole.now) c.args.entry.now s.who s.file s.block
    s.number s.value s.through c.line_at-in-W.result c.after_write-next.result c.args.lines.now.entries c.set_next-in-W.new.lines.entries s.is
    c.line_at-in-W.ensures c.after_write-next.ensures c.set_next-in-W.ensures

pub returns-in-Z : goal.returns-in-Z
returns-in-Z c =
    let s = c.in-Z in
    resize_next c.set_next-in-Z.result (reverse c.args.whole.now) (drop (c.args.place + 1) c.args.whole.now) c.args.entry.now s.who s.q s.file s.from
    s.to c.line_at-in-Z.result c.after_resize-next.result c.args.lines.now.entries c.set_next-in-Z.new.lines.entries s.is c.line_at-in-Z.ensures
    c.after_resize-next.ensures c.set_next-in-Z.ensures

pub returns-in-A : goal.returns-in-A
returns-in-A c =
    let s = c.in-A in
    answer_next c.set_next-in-A.result (reverse c.args.whole.now) (drop (c.args.place + 1) c.args.whole.now) c.args.entry.now s.who s.q s.said
    c.line_at-in-A.result c.after_answer-next.result c.args.lines.now.entries c.set_next-in-A.new.lines.entries s.is c.line_at-in-A.ensures
    c.after_answer-next.ensures c.set_next-in-A.ensures

pub returns-then-not-is_counted : goal.returns-then-not-is_counted
returns-then-not-is_counted c =
    let whole = reverse c.args.whole.now in
    let after = drop (c.args.place + 1) c.args.whole.now in
    let lines = c.args.lines.now.entries in
    let s = c.in-R in
    let uncounted : is_counted whole (R s.who s.q s.file s.block s.value s.served) ≡ false = subst (λ (e : Entry). is_counted whole e ≡ false) s.is
    (sym c.is_counted.ensures ∙ c.if-not-is_counted.true) in
    λ t. subst (λ (e : Entry). StandsInOrder whole after e lines lines) (sym s.is)
    (uncounted_stands whole after s.who s.q s.file s.block s.value s.served lines uncounted)

pub returns-else-not-is_counted : goal.returns-else-not-is_counted
returns-else-not-is_counted c =
    let s = c.in-R in
    read_next c.set_next-in-R.result (reverse c.args.whole.now) (drop (c.args.place + 1) c.args.whole.now) c.args.entry.now s.who s.q s.file s.block
    s.value s.served c.line_at-in-R.result c.after_read-next.result c.args.lines.now.entries c.set_next-in-R.new.lines.entries s.is
    c.line_at-in-R.ensures c.after_read-next.ensures c.set_next-in-R.ensures

pub returns-in_default : goal.returns-in_default
returns-in_default c =
    let found : IsTrue c.is_else.result → c.is_else.result ≡ true = λ t. search rules in
    λ t. else_stands (reverse c.args.whole.now) (drop (c.args.place + 1) c.args.whole.now) c.args.entry.now c.args.lines.now.entries
    (sym c.is_else.ensures ∙ found t)
