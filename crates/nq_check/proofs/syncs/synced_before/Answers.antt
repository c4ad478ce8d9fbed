use Rattle.std.proofs.Common.{◌<◌, length, refl, reverse, take, sym, ◌∙◌, ap, arith}
use Rattle.std.proofs.lemmas.Option.{slice_get_read}
use Rattle.nq_check.specs.Settling.{is_sync_of}
use Rattle.nq_check.proofs.Delayed.{ok_synced}
use Rattle.nq_check.proofs.syncs.synced_before.Goals as goal

pub returns-then-is_sync_of-clause-known : goal.returns-then-is_sync_of-clause-known
returns-then-is_sync_of-clause-known c =
    let whole = c.args.linked.now.whole.now in
    let at = c.head_at-at.result in
    let entry = c.index-whole-at.result in
    let below : at < c.args.place = c.if-at-place.true in
    let within : c.args.place < length whole = c.requires.ready.within in
    let there = slice_get_read whole (length whole) at entry refl (omega arith) c.index-whole-at.is in
    ok_synced (reverse whole) (reverse (take at whole)) c.args.by.now c.args.on entry
    (ap (is_sync_of c.args.on) (sym c.call_of_ok.ensures) ∙ sym c.is_sync_of.ensures ∙ c.if-is_sync_of.true)
    (c.requires.ready.kept at entry below there)
