use Rattle.std.proofs.Common.{◌<◌, ◌≤◌, length, refl, reverse, take, sym, ◌∙◌, ap, arith}
use Rattle.std.proofs.lemmas.Option.{slice_get_read}
use Rattle.nq_check.specs.Settling.{is_sizing_of}
use Rattle.nq_check.proofs.Delayed.{exists_later, ok_sized}
use Rattle.nq_check.proofs.syncs.resized_before.Goals as goal

pub returns-then-is_sizing_of-clause-known : goal.returns-then-is_sizing_of-clause-known
returns-then-is_sizing_of-clause-known c =
    let whole = c.args.linked.now.whole.now in
    let at = c.head_at-at.result in
    let entry = c.index-whole-at.result in
    let resize = c.args.resize in
    let below : at < resize = c.if-at-resize.true in
    let upto : resize ≤ c.args.place = c.requires.upto in
    let within : c.args.place < length whole = c.requires.ready.within in
    let there = slice_get_read whole (length whole) at entry refl (omega arith) c.index-whole-at.is in
    ok_sized (reverse whole) (reverse (take at whole)) (reverse (take resize whole)) c.args.by.now c.args.on entry
    (ap (is_sizing_of c.args.on) (sym c.call_of_ok.ensures) ∙ sym c.is_sizing_of.ensures ∙ c.if-is_sizing_of.true) (c.requires.ready.kept at entry
    (omega arith) there)
    (exists_later whole at resize (omega arith) (omega arith))
