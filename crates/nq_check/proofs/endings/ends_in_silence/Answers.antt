use Rattle.std.proofs.Common.{rules, ◌≡◌, true, ◌<◌, ◌-◌, length, refl, sym, ◌∙◌, arith}
use Rattle.std.proofs.lemmas.Option.{slice_get_read}
use Rattle.nq_check.proofs.Cutoffs.{end_between, silent_end}
use Rattle.nq_check.proofs.endings.ends_in_silence.Goals as goal

pub returns-else-not-is_late : goal.returns-else-not-is_late
returns-else-not-is_late c =
    let whole = c.args.whole.now in
    let lease = c.args.lease.now in
    let silent = c.args.silent in
    let above = c.if-silent-last.false in
    let below = c.if-silent-lease.false in
    let within : lease.place < length whole = c.requires.linked.within in
    let x = c.index-whole-end.result in
    let there = slice_get_read whole (length whole) (silent - 1) x refl (omega arith) c.index-whole-end.is in
    let same : c.is_of.result ≡ true = search rules in
    let late : c.is_late.result ≡ true = search rules in
    let f = c.in-F in
    λ t. end_between whole c.args.last silent lease.place lease.who.now lease.file (omega arith) (omega arith)
    (silent_end whole (silent - 1) x f.who lease.who.now f.file lease.file f.until f.heard f.now c.grant_before-grant.result there f.is
    (sym c.is_of.ensures ∙ same) (sym c.is_late.ensures ∙ late) c.grant_before-grant.ensures (c.are_stores_past.ensures t))
