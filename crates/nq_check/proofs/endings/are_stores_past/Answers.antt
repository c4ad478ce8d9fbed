use Rattle.std.proofs.Common.{rules, ◌≡◌, ◌≤◌, ◌<◌, ◌-◌, length, refl, arith}
use Rattle.std.proofs.lemmas.Option.{slice_get_read}
use Rattle.nq_check.proofs.Cutoffs.{all_stored, none_stored}
use Rattle.nq_check.proofs.endings.are_stores_past.Goals as goal

pub returns-then-at-eq0 : goal.returns-then-at-eq0
returns-then-at-eq0 c =
    let whole = c.args.whole.now in
    let lease = c.args.lease.now in
    let at = c.last_before-at.result in
    let upto : c.args.to ≤ lease.place = c.requires.upto in
    let within : lease.place < length whole = c.requires.linked.within in
    let zero : at ≡ 0 = search rules in
    λ t. none_stored c.file_key-key.result lease.who.now lease.file c.args.now whole at c.args.to c.file_key-key.ensures zero (omega arith)
    c.last_before-at.ensures.free

pub returns : goal.returns
returns c =
    let whole = c.args.whole.now in
    let lease = c.args.lease.now in
    let at = c.last_before-at.result in
    let some = c.if-at-eq0.false in
    let up : 0 < at = omega arith in
    let low : at ≤ c.args.to = c.last_before-at.ensures.low in
    let upto : c.args.to ≤ lease.place = c.requires.upto in
    let within : lease.place < length whole = c.requires.linked.within in
    let x = c.index-whole-at.result in
    let there = slice_get_read whole (length whole) (at - 1) x refl (omega arith) c.index-whole-at.is in
    λ t. all_stored c.file_key-key.result lease.who.now lease.file c.args.now whole at c.args.to lease.place x c.file_key-key.ensures up low upto
    (omega arith) c.last_before-at.ensures.free c.requires.linked.rises there (c.is_store_past.ensures t)
