use Rattle.std.proofs.Common.{rules, ◌≡◌, true, ◌<◌, ◌-◌, length, refl, sym, ◌∙◌, arith}
use Rattle.std.proofs.lemmas.Option.{slice_get_read}
use Rattle.nq_check.proofs.Cutoffs.{end_between, open_end}
use Rattle.nq_check.proofs.endings.ends_by_opening.Goals as goal

pub returns-else-not-is_long_wait : goal.returns-else-not-is_long_wait
returns-else-not-is_long_wait c =
    let whole = c.args.whole.now in
    let lease = c.args.lease.now in
    let opened = c.args.ends.now.opened in
    let since = c.args.ends.now.boot in
    let above = c.if-opened-last.false in
    let below = c.if-opened-lease.false in
    let some = c.if-since-eq0.false in
    let before = c.if-since-opened.false in
    let within : lease.place < length whole = c.requires.linked.within in
    let x = c.index-whole-end.result in
    let y = c.index-whole-since.result in
    let there = slice_get_read whole (length whole) (opened - 1) x refl (omega arith) c.index-whole-end.is in
    let there_y = slice_get_read whole (length whole) (since - 1) y refl (omega arith) c.index-whole-since.is in
    let long : c.is_long_wait.result ≡ true = search rules in
    let o = c.in-O in
    λ t. end_between whole c.args.last opened lease.place lease.who.now lease.file (omega arith) (omega arith)
    (open_end whole (opened - 1) (since - 1) x y lease.who.now lease.file o.boot o.until o.heard o.now c.grant_before-grant.result (omega arith) there_y
    there o.is (sym c.is_long_wait.ensures ∙ long) c.grant_before-grant.ensures (c.are_stores_past.ensures t))
