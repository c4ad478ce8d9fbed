use Rattle.std.proofs.Common.{◌≤◌, ◌<◌, ◌-◌, length, refl, arith}
use Rattle.std.proofs.lemmas.Option.{slice_get_read}
use Rattle.nq_check.proofs.Cutoffs.{grant_if_there}
use Rattle.nq_check.proofs.endings.grant_before.Goals as goal

pub returns : goal.returns
returns c =
    let whole = c.args.whole.now in
    let lease = c.args.lease.now in
    let at = c.last_before-at.result in
    let some = c.if-at-eq0.false in
    let up : 0 < at = omega arith in
    let low : at ≤ c.args.to = c.last_before-at.ensures.low in
    let upto : c.args.to ≤ lease.place = c.requires.upto in
    let within : lease.place < length whole = c.requires.linked.within in
    let x = c.index-whole-at.result in
    let there = slice_get_read whole (length whole) (at - 1) x refl (omega arith) c.index-whole-at.is in
    grant_if_there c.file_key-key.result lease.who.now lease.file whole at c.args.to x c.grant_by.result c.file_key-key.ensures up low (omega arith)
    c.last_before-at.ensures.free there c.grant_by.ensures
