use Rattle.std.proofs.Common.{rules, ◌≡◌, true, ◌≤◌, ◌<◌, ◌-◌, ◌+◌, length, refl, Some, subst, sym, ◌∙◌, arith}
use Rattle.std.specs.List.{slice_get}
use Rattle.std.proofs.lemmas.Option.{slice_get_read}
use Rattle.nq_check.proofs.Reporting.{never_told, next_free, told_at_once, told_before}
use Rattle.nq_check.proofs.reports.is_reported.Goals as goal

pub returns-then-call-whole : goal.returns-then-call-whole
returns-then-call-whole c =
    let whole = c.args.whole.now in
    let loss = c.args.loss.now in
    let call = c.saturating_sub-call.result in
    let within : c.args.place < length whole = c.requires.within in
    let past : length whole ≤ call = c.if-call-whole.true in
    let none = next_free whole (c.args.place + 1) c.args.next.now.entries c.args.by.now loss.file c.file_key.result c.head_at.result call
    c.requires.next c.file_key.ensures c.head_at.ensures c.saturating_sub-call.ensures in
    λ t. never_told whole c.args.by.now loss (c.args.place + 1) call (omega arith) past none

pub returns-then-answered-call : goal.returns-then-answered-call
returns-then-answered-call c =
    let whole = c.args.whole.now in
    let loss = c.args.loss.now in
    let call = c.saturating_sub-call.result in
    let at = c.head_at-at.result in
    let behind : c.args.place + 1 < at = c.if-at-place.false in
    let inside : at ≤ length whole = c.if-at-whole.false in
    let upto : at - 1 ≤ call = c.if-answered-call.true in
    let y = c.index-whole-answered.result in
    let there = slice_get_read whole (length whole) (at - 1) y refl (omega arith) c.index-whole-answered.is in
    let yes : c.names.result ≡ true = search rules in
    let none = next_free whole (c.args.place + 1) c.args.next.now.entries c.args.by.now loss.file c.file_key.result c.head_at.result call
    c.requires.next c.file_key.ensures c.head_at.ensures c.saturating_sub-call.ensures in
    λ t. told_before whole c.args.by.now loss (c.args.place + 1) call (at - 1) y (omega arith) upto there (sym c.names.ensures ∙ yes) none

pub returns : goal.returns
returns c =
    let whole = c.args.whole.now in
    let loss = c.args.loss.now in
    let call = c.saturating_sub-call.result in
    let at = c.head_at-at.result in
    let ordered = c.args.found.now.ordered in
    let behind : c.args.place + 1 < at = c.if-at-place.false in
    let inside : at ≤ length whole = c.if-at-whole.false in
    let past : call < at - 1 = c.if-answered-call.false in
    let after : c.args.place < call = c.if-call-place.false in
    let near : at - 1 ≤ call + 1 = c.if-answered-call-2.false in
    let below : at - 1 < ordered = c.if-answered-found.false in
    let x = c.index-whole-call.result in
    let y = c.index-whole-answered.result in
    let there_x = slice_get_read whole (length whole) call x refl (omega arith) c.index-whole-call.is in
    let there = slice_get_read whole (length whole) (at - 1) y refl (omega arith) c.index-whole-answered.is in
    let same : at - 1 ≡ call + 1 = omega arith in
    let there_y : slice_get whole (call + 1) ≡ Some y = subst (λ i. slice_get whole i ≡ Some y) same there in
    let yes : c.names.result ≡ true = search rules in
    let in_order = c.requires.ordered (call + 1) y (omega arith) there_y in
    let none = next_free whole (c.args.place + 1) c.args.next.now.entries c.args.by.now loss.file c.file_key.result c.head_at.result call
    c.requires.next c.file_key.ensures c.head_at.ensures c.saturating_sub-call.ensures in
    λ t. told_at_once whole c.args.by.now loss (c.args.place + 1) call x y (omega arith) there_x there_y (sym c.names.ensures ∙ yes)
    (sym c.answers.ensures ∙ t) in_order none
